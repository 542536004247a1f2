-- `trailer_right`: a length on either side of what is allowed, or where the trailer points.
use Rattle.std.proofs.Common.{arith, sym}
use Rattle.capture.proofs.Walk.{too_short, too_long, right-length}
use Rattle.capture.proofs.trailer_right.Goals as goal
use Rattle.capture.proofs.trailer_right.Goals.{then-capture-lt-TRAILER_LENGTH-via-then-capture-lt-TRAILER_LENGTH, then-capture-lt-TRAILER_LENGTH-via-else-capture-lt-TRAILER_LENGTH+then-capture-gt-LONGEST_CAPTURE}

pub returns-then-capture-lt-TRAILER_LENGTH : goal.returns-then-capture-lt-TRAILER_LENGTH
returns-then-capture-lt-TRAILER_LENGTH c =
    elim c.then-capture-lt-TRAILER_LENGTH.branch [
      | then-capture-lt-TRAILER_LENGTH-via-then-capture-lt-TRAILER_LENGTH w ↦ sym (too_short c.args.capture.now (omega arith))
      | then-capture-lt-TRAILER_LENGTH-via-else-capture-lt-TRAILER_LENGTH+then-capture-gt-LONGEST_CAPTURE w ↦
          sym (too_long c.args.capture.now (omega arith) (omega arith))
    ]

pub returns : goal.returns
returns c =
    rw (c.begins.ensures, c.trailer_begins.ensures, c.last_place.ensures)
    (sym (right-length c.args.capture.now (omega arith) (omega arith)))
