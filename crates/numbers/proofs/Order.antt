-- Numbers tried in their order: which one is met, and what is known where none is.
-- Assumes nothing.
use mathlib.Core.Path.{◌≡◌, refl, sym}
use mathlib.Core.Bool.{Bool, true, false, cond}
use mathlib.Core.List.{List, [], ◌∷◌}
use Prim.Native.Nat.{ℕ, zero, suc, ◌<◌}
use native.Mathlib.Omega.{arith}
use borrow.Author.Tests.{eqb-true, eqb-false, eq-eqb, ne_eqb}
use lib.Dec.{eqb}
use lib.ListN.{get_or}
use Rattle.numbers.specs.Numbers.{none, unless, first_met, unless_met}
use Rattle.numbers.proofs.Tests.{chosen}

-- ---- a number, and the number that those after it come to: in a definition that is opened a proof finds both by itself

module _ (n next : ℕ) where
  -- a number that is met is the first; where it is not met those after it decide
  pub this-first : (n ≡ none → ⊥) → cond (eqb n none) next n ≡ n
  this-first h = rw (ne_eqb n none h)

  pub next-first : n ≡ none → cond (eqb n none) next n ≡ next
  next-first e = rw (eq-eqb n none e)

  -- where none is met, neither this one is nor any after it
  pub neither-first : cond (eqb n none) next n ≡ none → (n ≡ none) × (next ≡ none)
  neither-first = by (eqb n none) refl
    where
      by : (b : Bool) → eqb n none ≡ b → cond b next n ≡ none → (n ≡ none) × (next ≡ none)
      by true q e = (eqb-true n none q, e)
      by false q e = absurd (eqb-false n none q e)

  -- what holds of this one and of the first of those after it holds of the first of all
  pub either_first : (P : ℕ → Type 0) → P n → P next → P (cond (eqb n none) next n)
  either_first P p q = chosen P (eqb n none) (λ e. q) (λ e. p)

-- ---- a number, and the list of those after it

module _ (n : ℕ) (ns : List ℕ) where
  pub this-met : (n ≡ none → ⊥) → first_met (n ∷ ns) ≡ n
  this-met = this-first n (first_met ns)

  pub not-met : n ≡ none → first_met (n ∷ ns) ≡ first_met ns
  not-met = next-first n (first_met ns)

  pub none-met : first_met (n ∷ ns) ≡ none → (n ≡ none) × (first_met ns ≡ none)
  none-met = neither-first n (first_met ns)

  pub each : (P : ℕ → Type 0) → P n → P (first_met ns) → P (first_met (n ∷ ns))
  each = either_first n (first_met ns)

-- where none is met, none is at any place
pub none-at : (ns : List ℕ) (k : ℕ) → first_met ns ≡ none → get_or ns k none ≡ none
none-at [] k e = refl
none-at (n ∷ ns) zero e = (none-met n ns e).0
none-at (n ∷ ns) (suc k) e = none-at ns k (none-met n ns e).1

-- the last number that is tried
pub last-met : (n : ℕ) → first_met (n ∷ []) ≡ n
last-met n = chosen (λ (m : ℕ). m ≡ n) (eqb n none) (λ e. sym (eqb-true n none e)) (λ _. refl)

-- ---- a test, and its number

-- where its number is not met, a test held
pub test-held : (test : Bool) (n : ℕ) → 0 < n → unless test n ≡ none → test ≡ true
test-held true n h e = refl
test-held false n h e = absurd (omega arith)

-- where none is met, the test that comes first held, and none after it is met
pub passed : (test : Bool) (n next : ℕ) → 0 < n → cond (eqb (unless test n) none) next (unless test n) ≡ none
    → (test ≡ true) × (next ≡ none)
passed test n next h e =
    let first = neither-first (unless test n) next e in
    (test-held test n h first.0, first.1)

-- ---- what comes of a number

module _ {A : Type 0} (n : ℕ) (refused : ℕ → A) (done : A) where
  -- a refusal where it is met, and else what is done
  pub is-refused : (n ≡ none → ⊥) → unless_met n refused done ≡ refused n
  is-refused h = rw (ne_eqb n none h)

  pub is-done : n ≡ none → unless_met n refused done ≡ done
  is-done e = rw (eq-eqb n none e)

  -- what holds of a refusal by a number that is met, and of what is done where it is not, holds of what comes of it
  pub either_way : (P : A → Type 0) → ((n ≡ none → ⊥) → P (refused n)) → (n ≡ none → P done) → P (unless_met n refused done)
  either_way P r d = chosen P (eqb n none) (λ e. d (eqb-true n none e)) (λ e. r (eqb-false n none e))
