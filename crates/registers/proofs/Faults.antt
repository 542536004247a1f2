-- The rules of each function one by one, and what follows from meeting a fault or none.
-- Assumes nothing.
use mathlib.Core.Path.{◌≡◌, refl, ◌∙◌}
use mathlib.Core.Bool.{Bool, true}
use mathlib.Core.List.{List}
use Prim.Native.Nat.{ℕ, ◌+◌, ◌*◌, ◌≤◌, ◌<◌}
use native.Mathlib.Omega.{arith}
use lib.ListN.{length}
use Rattle.std.proofs.lemmas.Bool.Decides.{nat_tests}
use Rattle.numbers.specs.Numbers.{none, unless}
use Rattle.numbers.proofs.Tests.{chosen}
use Rattle.items.specs.ItemList.{map_size}
use Rattle.registers.specs.Faults.{wrong_register, wrong_data, body_length, first_word, second_word}
use Rattle.registers.specs.Faults.{most_registers, in_map, read_fault}
use Rattle.registers.specs.Faults.{byte_count, right_counts, loopback_fault}

-- ---- numbers

-- the numbers of exceptions are above 30
abbrev pub Numbered : ℕ → Type 0
Numbered fault = (fault ≡ none → ⊥) → 30 < fault

pub none-numbered : Numbered none
none-numbered f = absurd (f refl)

pub register-numbered : (test : Bool) → Numbered (unless test wrong_register)
register-numbered test = chosen Numbered test (λ e. none-numbered) (λ e f. omega arith)

pub data-numbered : (test : Bool) → Numbered (unless test wrong_data)
data-numbered test = chosen Numbered test (λ e. none-numbered) (λ e f. omega arith)

-- so what a fault function gave back is such a number where it is not 0
pub numbered_of : {fault number : ℕ} → Numbered fault → number ≡ fault → (number ≡ none → ⊥) → 30 ≤ number
numbered_of n e h = let above = n (λ z. h (e ∙ z)) in omega arith

-- ---- 03H

module _ (body : List ℕ) where
  pub read-numbered : Numbered (read_fault body)
  unfolding read_fault
  read-numbered h = grind (arith, nat_tests)

  pub read-span : 1 ≤ second_word body → second_word body ≤ most_registers → length body ≡ body_length → {b : Bool}
      → b ≡ in_map (first_word body) (second_word body) → read_fault body ≡ unless b wrong_register
  unfolding read_fault
  read-span l m h e = grind (arith, nat_tests)

-- what a request to read that meets no fault is
pub record ToRead (body : List ℕ) : Type 0 where
  pub long : length body ≡ 6
  pub some : 1 ≤ second_word body
  pub few : second_word body ≤ 125
  pub span : first_word body + second_word body ≤ map_size

pub read-accepted : (body : List ℕ) → read_fault body ≡ none → ToRead body
unfolding read_fault
read-accepted body e = record { long = grind (arith, nat_tests); some = grind (arith, nat_tests); few = grind (arith, nat_tests); span = grind (arith, nat_tests) }

-- ---- 08H

module _ (body : List ℕ) where
  pub loopback-numbered : Numbered (loopback_fault body)
  unfolding loopback_fault
  loopback-numbered h = grind (arith, nat_tests)

  pub loopback-accepted : loopback_fault body ≡ none → length body ≡ body_length
  unfolding loopback_fault
  loopback-accepted e = grind (arith, nat_tests)

-- ---- 10H

-- length, quantity and byte count agree
pub record Counted (body : List ℕ) : Type 0 where
  pub long : length body ≡ 7 + byte_count body
  pub some : 1 ≤ second_word body
  pub few : second_word body ≤ 123
  pub twice : byte_count body ≡ 2 * second_word body

pub counted : (body : List ℕ) → right_counts body ≡ true → Counted body
unfolding right_counts
counted body r = record { long = grind (arith, nat_tests); some = grind (arith, nat_tests); few = grind (arith, nat_tests); twice = grind (arith, nat_tests) }
