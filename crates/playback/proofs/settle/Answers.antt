-- `settle`: a frame that is no accepted write gives nothing, and of one that is the message does.
use Rattle.std.proofs.Common.{arith, sym, ap, ◌∙◌}
use Rattle.writes.specs.Writes.{later}
use Rattle.writes.proofs.Stored.{later-none}
use Rattle.playback.proofs.Frames.{accepted_body, other_writes, accepted_writes}
use Rattle.playback.proofs.settle.Goals as goal

pub body_of-requires : goal.body_of-requires
body_of-requires c = omega (arith, accepted_body _ _ (sym c.accepts_frame.ensures ∙ c.if-accepts_frame.true))

pub returns-then-accepts_frame : goal.returns-then-accepts_frame
returns-then-accepts_frame c =
    let s = rw c.body_of.ensures at c.settle_each.ensures in
    let accepted = sym c.accepts_frame.ensures ∙ c.if-accepts_frame.true in
    record { now = λ i h. s.now i h ∙ ap (later _) (sym (accepted_writes _ _ i accepted)) }

pub returns-else-accepts_frame : goal.returns-else-accepts_frame
returns-else-accepts_frame c =
    let other = sym c.accepts_frame.ensures ∙ c.if-accepts_frame.false in
    record { now = λ i h. sym (ap (later _) (other_writes c.args.address c.args.frame.now i other) ∙ later-none _) }
