-- `fault`: a walk back can begin and reaches place 0, or one of the two fails.
use Rattle.std.proofs.Common.{sym, ◌∙◌}
use Rattle.capture.proofs.Walk.{fault-reached}
use Rattle.capture.proofs.fault.Goals as goal
use Rattle.capture.proofs.fault.Goals.{else-trailer_right-via-then-trailer_right+else-reaches, else-trailer_right-via-else-trailer_right}

pub returns-then-reaches : goal.returns-then-reaches
returns-then-reaches c =
    let begun = sym c.trailer_right.ensures ∙ c.if-trailer_right.true in
    let reached = sym (rw (c.count.ensures, c.trailer_begins.ensures) at c.reaches.ensures) ∙ c.if-reaches.true in
    sym (rw (begun, reached) at (fault-reached c.args.capture.now))

pub returns-else-trailer_right : goal.returns-else-trailer_right
returns-else-trailer_right c =
    elim c.else-trailer_right.branch [
      | else-trailer_right-via-then-trailer_right+else-reaches w ↦
          let begun = sym c.trailer_right.ensures ∙ w.if-trailer_right.true in
          let reached = sym (rw (w.count.ensures, w.trailer_begins.ensures) at w.reaches.ensures) ∙ w.if-reaches.false in
          sym (rw (begun, reached) at (fault-reached c.args.capture.now))
      | else-trailer_right-via-else-trailer_right w ↦
          sym (rw (sym c.trailer_right.ensures ∙ w.if-trailer_right.false) at (fault-reached c.args.capture.now))
    ]
