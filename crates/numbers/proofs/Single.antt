-- What shows that two outcomes are one: part by part, each by the equation that a promise gives of it. With it each public function of
-- this crate promises one outcome.
-- Assumes nothing.
use mathlib.Core.Path.{◌≡◌, refl, sym, ◌∙◌, ap₂}
use Prim.Native.Nat.{ℕ}
use Rattle.numbers.specs.Promise.{OneOutcome, Lent}
use Rattle.numbers.proofs as numbers
use Rattle.numbers.specs.contracts as contract

-- two answers to one equation
pub single : {A : Type 0} {x r s : A} → r ≡ x → s ≡ x → r ≡ s
single p q = p ∙ sym q

-- a result and what was lent, part by part
infixr 60 ◌&◌
pub ◌&◌ : {A B : Type 0} {v w : A × B} → v.0 ≡ w.0 → v.1 ≡ w.1 → v ≡ w
p & q = ap₂ (λ a b. (a, b)) p q

module _ {A : Type 0} {number : ℕ} {lent : A} {r s : ℕ} {after other : A} where
  -- a number, and one thing that was lent
  pub lent-single : Lent number lent r after → Lent number lent s other → (r ≡ s) × (after ≡ other)
  lent-single p q = (single p.given q.given, single p.left q.left)

-- ---- the functions of this crate

pub number : OneOutcome contract.Refusal.number.ended numbers.Refusal.number.Reads.Asked numbers.Refusal.number.Reads.Post
number = record { asks_nothing = λ κs a. tt; single = λ κs a o u p q. single p q & refl }

pub number_if : OneOutcome contract.number_if.ended numbers.number_if.Reads.Asked numbers.number_if.Reads.Post
number_if = record { asks_nothing = λ κs a. tt; single = λ κs a o u p q. single p q & refl }
