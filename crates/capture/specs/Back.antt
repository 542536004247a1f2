-- A walk back over the records of a capture, one step after the other.
use Rattle.std.specs.Prelude.{ℕ, ◌≡◌, cond, Option, Some, None}
use Rattle.capture.specs.declared.Back.{Back}
use Rattle.capture.specs.Format.{begins, record_ends}

-- one step: it gives the place in front of which a record ends, and goes on to where that one begins; where none ends, it gives nothing
-- and stays
pub record Steps (walk : Back) (given : Option ℕ) (left : Back) : Type 0 where
  pub same : left.capture ≡ walk.capture
  pub place : given ≡ cond (record_ends walk.capture.now walk.end) (Some walk.end) None
  pub further : left.end ≡ cond (record_ends walk.capture.now walk.end) (begins walk.capture.now walk.end) walk.end
