-- The first number of which a test holds.
-- Assumes nothing.
use mathlib.Core.Path.{◌≡◌, ap}
use mathlib.Core.Bool.{Bool, true, false}
use Prim.Native.Nat.{ℕ, zero, suc, ◌≤◌, ◌<◌}
use native.Mathlib.Omega.{arith}
use Rattle.numbers.proofs.Tests.{chosen}
use Rattle.last_write.specs.LastWrite.{first_below}

-- a number is the first of which a test holds
pub record Earliest (test : ℕ → Bool) (n : ℕ) : Type 0 where
  pub holds : test n ≡ true
  pub before : (k : ℕ) → k < n → test k ≡ false

-- none is past the bound
pub first-within : (bound : ℕ) (test : ℕ → Bool) → first_below bound test ≤ bound
first-within zero test = omega arith
first-within (suc bound) test =
    let few = first-within bound (λ n. test (suc n)) in
    chosen (λ (n : ℕ). n ≤ suc bound) (test 0) (λ _. omega arith) (λ _. omega arith)

-- it is found below any bound that is not below it
pub first-is : (bound : ℕ) (test : ℕ → Bool) (n : ℕ) → n ≤ bound → Earliest test n → first_below bound test ≡ n
first-is zero test n h e = omega arith
first-is (suc bound) test zero h e = rw e.holds
first-is (suc bound) test (suc n) h e =
    rw (e.before 0 (omega arith))
    (ap suc
    (first-is bound (λ k. test (suc k)) n (omega arith) (record { holds = e.holds; before = λ k l. e.before (suc k) (omega arith) })))

-- one later, where the test does not hold at first
pub one_later : {test : ℕ → Bool} {n : ℕ} → test 0 ≡ false → Earliest (λ k. test (suc k)) n → Earliest test (suc n)
one_later {test} {n} f e = record { holds = e.holds; before = before }
  where
    before : (k : ℕ) → k < suc n → test k ≡ false
    before zero h = f
    before (suc k) h = e.before k (omega arith)
