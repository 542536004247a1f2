-- What is promised of each way out of `read`, and which numbers a reading can have.
-- Assumes nothing.
use mathlib.Core.Path.{◌≡◌, refl, sym, ap, ap₂, ◌∙◌}
use mathlib.Core.Bool.{Bool, true, false, ◌&&◌}
use mathlib.Core.List.{List, [], ◌∷◌, ◌++◌}
use Prim.Native.Nat.{ℕ, suc, ◌<◌, ◌≤◌}
use native.Mathlib.Omega.{arith}
use borrow.Author.Tests.{le-leb, lt-leb}
use lib.Dec.{eqb, leb}
use lib.IntN.{ℤ, pos}
use lib.ListN.{length, take, drop}
use Rattle.std.specs.Prelude.{Result, Ok, Err}
use Rattle.numbers.specs.declared.Refusal.{Refusal}
use Rattle.numbers.specs.declared.Refusal.TheVariants.{TooManyDecimals, OverSixCharacters}
use Rattle.numbers.specs.Numbers.{none, unless, first_met, unless_met}
use Rattle.numbers.specs.Refusals.{number_of, number_given}
use Rattle.numbers.proofs.Order.{last-met, is-refused}
use Rattle.numbers.proofs.Refusals.{refusal-met}
use Rattle.numbers.proofs.Tests.{chosen}
use Rattle.text.specs.Characters.{minus_sign}
use Rattle.text.specs.Numbers.{most_decimals, over_six_characters, no_number, value_of}
use Rattle.text.specs.Reading.{all_digits, point_at, of_unsigned, of_text, read_number, read_value, ReadAs}

-- the promise of a reading is that of an equal one, of equal characters at equal decimals
pub read_by : {width d k : ℕ} {cs ds : List ℕ} {r s : Result ℤ Refusal} → d ≡ k → cs ≡ ds → r ≡ s → ReadAs width d cs r
    → ReadAs width k ds s
read_by {width} p q e a =
    record {
      number = cc;
      value = ap value_of (sym e) ∙ a.value ∙ ap₂ (read_value width) p q;
    }

-- ---- the ways out of `read`. Their number is left to tactics, which prove a promise that says less too: what refuses it is Single.antt.

-- a refused reading has the value 0
value-last : (r : Result ℤ Refusal) → unless_met (number_given r) (λ n. pos 0) (value_of r) ≡ value_of r
value-last (Ok v) = refl
value-last (Err e) = is-refused (number_of e) (λ n. pos 0) (pos 0) (refusal-met e)

module _ (width d : ℕ) (cs : List ℕ) where
  pub read-decimals : most_decimals < d → ReadAs width d cs (Err TooManyDecimals)
  unfolding read_number read_value
  read-decimals h = let e = lt-leb d most_decimals h in record { number = grind arith; value = rw e }

  module _ (few : d ≤ most_decimals) where
    pub read-long : width < length cs → ReadAs width d cs (Err OverSixCharacters)
    unfolding read_number read_value
    read-long h =
        let e = le-leb d most_decimals few in
        let l = lt-leb (length cs) width h in
        record { number = grind arith; value = rw (e, l) }

    pub read-text : length cs ≤ width → {r : Result ℤ Refusal} → r ≡ of_text d cs → ReadAs width d cs r
    unfolding read_number read_value
    read-text h e =
        let f = le-leb d most_decimals few in
        let l = le-leb (length cs) width h in
        let last = last-met (number_given (of_text d cs)) in
        record {
          number = simp (e, f, l, last);
          value = ap value_of e ∙ rw (f, l, last) (sym (value-last (of_text d cs)));
        }

-- ---- the numbers of a reading

module _ (P : ℕ → Type 0) (value : P none) (unread : P no_number) where
  of-unsigned : (minus : Bool) (d : ℕ) (cs : List ℕ) → P (number_given (of_unsigned minus d cs))
  of-unsigned minus d cs =
      let digits = take (point_at cs) cs ++ drop (suc (point_at cs)) cs in
      chosen (λ (r : Result ℤ Refusal). P (number_given r)) (all_digits digits && leb 1 (length digits)) (λ _. value) (λ _. unread)

  of-text : (d : ℕ) (cs : List ℕ) → P (number_given (of_text d cs))
  of-text d [] = unread
  of-text d (c ∷ cs) =
      chosen (λ (r : Result ℤ Refusal). P (number_given r)) (eqb c minus_sign) (λ _. of-unsigned true d cs)
      (λ _. of-unsigned false d (c ∷ cs))

  -- with few decimals they are none, 15 and 16
  pub few-numbers : P over_six_characters → (width d : ℕ) (cs : List ℕ) → d ≤ most_decimals → P (read_number width d cs)
  unfolding read_number
  few-numbers long width d cs few =
      rw (le-leb d most_decimals few) (by (leb (length cs) width))
    where
      by : (short : Bool) → P (first_met (unless short over_six_characters ∷ number_given (of_text d cs) ∷ []))
      by true = rw (last-met (number_given (of_text d cs))) (of-text d cs)
      by false = long
