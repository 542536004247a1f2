-- The minus takes the first place of the text without one.
use Rattle.std.proofs.Common.{arith, true}
use Rattle.text.specs.Numbers.{width}
use Rattle.text.proofs.Texts.{enough-room, minus-first}
use Rattle.text.proofs.layout.Goals as goal

pub returns-then-minus : goal.returns-then-minus
returns-then-minus c =
    let room = (enough-room width c.args.decimals.count true (omega arith) c.args.decimals.few).0 in
    rw (c.if-minus.true, c.places-chars.ensures) (minus-first width c.args.decimals.count c.args.size room)
