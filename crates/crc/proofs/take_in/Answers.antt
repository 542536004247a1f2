-- Four shifts and four are eight.
use Rattle.std.proofs.Common.{sym, ap, ◌∙◌}
use Rattle.crc.specs.Crc.{shifts}
use Rattle.crc.proofs.Shifts.{shifts-add}
use Rattle.crc.proofs.take_in.Goals as goal

pub returns : goal.returns
returns c = c.shift_four-2.ensures ∙ ap (shifts 4) c.shift_four.ensures ∙ sym (shifts-add 4 4 _)
