-- Four shifts at once, with what they make of the four lowest bits.
use Rattle.std.proofs.Common.{sym, ap, ◌∙◌, ◌/◌, ◌%◌, arith}
use Rattle.std.specs.Int.Bits.{bit_xor}
use Rattle.crc.proofs.Shifts.{shifts-at-once}
use Rattle.crc.proofs.shift_four.Goals as goal

pub returns : goal.returns
returns c =
    let crc = c.args.crc in
    ap (bit_xor (crc / 16)) (c.requires (crc % 16) (omega arith)) ∙ sym (shifts-at-once 4 crc)
