-- A test that is computed: two functions agree at each number below n.
-- Assumes nothing.
use mathlib.Core.Path.{◌≡◌}
use mathlib.Core.Bool.{Bool, true, ◌&&◌}
use Prim.Native.Nat.{ℕ, zero, suc, ◌<◌}
use native.Mathlib.Nat.{not-suc-le-zero, le_of_suc-le-suc}
use borrow.Author.Tests.{eqb-true}
use lib.Dec.{eqb}
use Rattle.numbers.proofs.Tests.{both}

abbrev pub agree : (ℕ → ℕ) → (ℕ → ℕ) → ℕ → Bool
agree f g zero = true
agree f g (suc n) = eqb (f 0) (g 0) && agree (λ (k : ℕ). f (suc k)) (λ (k : ℕ). g (suc k)) n

-- where the test holds, so does the equation at each of them
pub agree_at : (f g : ℕ → ℕ) (n : ℕ) → agree f g n ≡ true → (k : ℕ) → k < n → f k ≡ g k
agree_at f g zero e k h = absurd (not-suc-le-zero h)
agree_at f g (suc n) e zero h = eqb-true (f 0) (g 0) (both (eqb (f 0) (g 0)) _ e).0
agree_at f g (suc n) e (suc k) h = agree_at _ _ n (both (eqb (f 0) (g 0)) _ e).1 k (le_of_suc-le-suc h)
