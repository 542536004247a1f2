-- What the crates above use of tests: what two at once tell of each, and what holds of the answer that one picks.
-- Assumes nothing.
use mathlib.Core.Path.{◌≡◌, refl, sym, subst}
use mathlib.Core.Bool.{Bool, true, false, cond, ◌&&◌}
use lib.Dec.{T}

-- a test cannot have both answers
pub contrary : {X : Type 0} → true ≡ false → X
contrary e = absurd (subst T e tt)

-- both tests held
pub both : (a b : Bool) → (a && b) ≡ true → (a ≡ true) × (b ≡ true)
both true b e = (refl, e)
both false b e = contrary (sym e)

-- what holds of the one answer where the test holds, and of the other where it fails, holds of the one that is chosen
pub chosen : {A : Type 0} (P : A → Type 0) (test : Bool) {x y : A} → (test ≡ true → P x) → (test ≡ false → P y) → P (cond test x y)
chosen P true held failed = held refl
chosen P false held failed = failed refl
