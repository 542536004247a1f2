-- What a turn of each loop over characters, and each call of the reading, tells of the definitions.
-- Assumes nothing.
use mathlib.Core.Path.{◌≡◌, refl, sym}
use mathlib.Core.Bool.{Bool, true, false, cond, ◌&&◌, and-false}
use mathlib.Core.List.{List, [], ◌∷◌, ◌++◌}
use Prim.Native.Nat.{ℕ, suc, ◌+◌, ◌-◌, ◌*◌, ◌/◌, ◌^◌, ◌<◌, ◌≤◌}
use native.Mathlib.Nat.{zero-add, pow-le-pow_right, mul-le-mul_left, div-le_self}
use native.Mathlib.Numerals.{add-one}
use native.Mathlib.Omega.{arith}
use borrow.Author.Tests.{eq-eqb, ne_eqb, le-leb}
use lib.Dec.{leb, eqb}
use lib.ListN.{length, get_or, drop, length-append}
use lib.Pow.{pow-add}
use lib.Seq.{drop-cons}
use Rattle.std.specs.Prelude.{Some, None, Ok, Err}
use Rattle.numbers.specs.declared.Refusal.TheVariants.{NoNumber}
use Rattle.sign.specs.Sign.{signed}
use Rattle.numbers.proofs.Tests.{contrary, chosen}
use Rattle.text.specs.Characters.{minus_sign, point, zero_digit, is_digit}
use Rattle.text.specs.Numbers.{most_decimals}
use Rattle.text.specs.Reading.{all_digits, number_from, digits_from, point_at, of_parts, of_unsigned, of_text}
use Rattle.text.proofs.Numerals.{all_append, number_append, number-below}

-- ---- one character

pub point-here : (c : ℕ) (cs : List ℕ) → c ≡ point → point_at (c ∷ cs) ≡ 0
point-here c cs e = rw (eq-eqb c point e)

pub point-later : (c : ℕ) (cs : List ℕ) → (c ≡ point → ⊥) → point_at (c ∷ cs) ≡ point_at cs + 1
point-later c cs e = rw (ne_eqb c point e) (sym (add-one (point_at cs)))

module _ (cs : List ℕ) (i : ℕ) (h : i < length cs) where
  pub digit-here : (n : ℕ) → is_digit (get_or cs i 0) ≡ true
      → digits_from n (drop i cs) ≡ digits_from (n * 10 + (get_or cs i 0 - zero_digit)) (drop (suc i) cs)
  digit-here n e = rw (drop-cons cs i 0 h, e)

-- ---- what `digits_from` found

number_of : (b : Bool) (x m : ℕ) → cond b (Some x) None ≡ Some m → (b ≡ true) × (m ≡ x)
number_of true x m e = (refl, cc)
number_of false x m e = let z : ◌≡◌ {A = Bool} true false = cc in contrary z

other-of : (b : Bool) (x : ℕ) → cond b (Some x) None ≡ None → b ≡ false
other-of true x e = cc
other-of false x e = refl

number-found : (n : ℕ) (cs : List ℕ) (m : ℕ) → digits_from n cs ≡ Some m → (all_digits cs ≡ true) × (m ≡ number_from n cs)
number-found n cs m e = number_of (all_digits cs) (number_from n cs) m e

-- a number of k digits, and the digits after it
pub found_below : (k n : ℕ) (cs : List ℕ) (m : ℕ) → n < 10 ^ k → digits_from n cs ≡ Some m → m < 10 ^ (k + length cs)
found_below k n cs m h e = let p = number-found n cs m e in rw p.1 (number-below cs n k p.0 h)

-- the digits before the point and those after it make one number
pub number_small : (whole fraction : List ℕ) (front n : ℕ) → digits_from 0 whole ≡ Some front
    → digits_from front fraction ≡ Some n → n < 10 ^ (length whole + length fraction)
number_small whole fraction front n w f =
    let small = rw (zero-add (length whole)) at (found_below 0 0 whole front (omega arith) w) in
    found_below (length whole) front fraction n small f

-- ---- what the parts before and after the point say

module _ (minus : Bool) (d : ℕ) (whole fraction : List ℕ) where
  refused-by : (all_digits (whole ++ fraction) && leb 1 (length (whole ++ fraction))) ≡ false
      → Err NoNumber ≡ of_parts minus d whole fraction
  refused-by e = rw e

  pub no_whole : digits_from 0 whole ≡ None → Err NoNumber ≡ of_parts minus d whole fraction
  no_whole e = refused-by (rw (all_append whole fraction, other-of (all_digits whole) (number_from 0 whole) e))

  pub no_fraction : (front : ℕ) → digits_from front fraction ≡ None → Err NoNumber ≡ of_parts minus d whole fraction
  no_fraction front e =
      let other = other-of (all_digits fraction) (number_from front fraction) e in
      refused-by (rw (all_append whole fraction, other, and-false (all_digits whole)))

  pub digits-say : (front n : ℕ) → digits_from 0 whole ≡ Some front → digits_from front fraction ≡ Some n
      → (length whole + length fraction ≡ 0 → ⊥)
      → Ok (signed minus (n * 10 ^ d / 10 ^ length fraction)) ≡ of_parts minus d whole fraction
  digits-say front n w f some =
      let p = number-found 0 whole front w in
      let q = number-found front fraction n f in
      let l = length-append whole fraction in
      let one = le-leb 1 (length (whole ++ fraction)) (omega arith) in
      rw (all_append whole fraction, p.0, q.0, one, number_append 0 whole fraction, ← p.1, ← q.1)

-- a number of k digits, times at most 1000, and what a quotient leaves of that
pub scaled : (k n d : ℕ) → n < 10 ^ k → d ≤ most_decimals → n * 10 ^ d < 10 ^ (k + most_decimals)
scaled k n d h few =
    let p = mul-le-mul_left n (pow-le-pow_right {n = 10} (omega arith) few) in rw (pow-add 10 k most_decimals) (omega arith)

pub sized : (k n d q : ℕ) → n < 10 ^ k → d ≤ most_decimals → n * 10 ^ d / q < 10 ^ (k + most_decimals)
sized k n d q h few = let p = div-le_self (n * 10 ^ d) q in let m = scaled k n d h few in omega arith

-- ---- parts of the text

pub point-within : (cs : List ℕ) → point_at cs ≤ length cs
point-within [] = omega arith
point-within (c ∷ cs) =
    let h = point-within cs in
    chosen (λ (n : ℕ). n ≤ suc (length cs)) (eqb c point) (λ e. omega arith) (λ e. omega arith)

-- the number starts after the minus, or with the first character
pub with-minus : (d : ℕ) (cs : List ℕ) → get_or cs 0 0 ≡ minus_sign → of_unsigned true d (drop 1 cs) ≡ of_text d cs
with-minus d [] e = absurd (omega arith)
with-minus d (c ∷ cs) e = rw (eq-eqb c minus_sign e) refl

pub without-minus : (d : ℕ) (cs : List ℕ) → (get_or cs 0 0 ≡ minus_sign → ⊥) → of_unsigned false d cs ≡ of_text d cs
without-minus d [] e = refl
without-minus d (c ∷ cs) e = rw (ne_eqb c minus_sign e)
