-- What is written is read back as the value it was written from: the digits, with the point put in and taken out again, are the
-- size, and the minus stands first or not at all.
-- Assumes nothing.
use mathlib.Core.Path.{◌≡◌, refl, sym, ap, ◌∙◌}
use mathlib.Core.Bool.{Bool, true, false}
use mathlib.Core.List.{List, [], ◌∷◌, ◌++◌, append-nil}
use Prim.Native.Nat.{ℕ, zero, suc, ◌-◌, ◌^◌, ◌<◌, ◌≤◌}
use native.Mathlib.Nat.{mod-eq_of_lt, mul-div_cancel, one-le-pow}
use native.Mathlib.Numerals.{add-one}
use native.Mathlib.Omega.{arith}
use borrow.Author.Tests.{le-leb, ltb-true, ne_eqb}
use lib.IntN.{pos, nat_abs}
use lib.ListN.{length, get_or, take, drop, length-take, length-drop, take-append-drop, drop_of_length-le}
use lib.Seq.{take-length, take-append_seam, drop-append-add}
use lib.Signed.{lt_z}
use Rattle.std.specs.Prelude.{Ok}
use Rattle.sign.specs.Sign.{signed}
use Rattle.sign.proofs.Laws.{by_sign}
use Rattle.numbers.proofs.Tests.{both}
use Rattle.text.specs.Characters.{minus_sign, point, is_digit}
use Rattle.text.specs.Numbers.{least_width, most_decimals}
use Rattle.text.specs.Reading.{all_digits, number_from, point_at, of_parts, of_unsigned, of_text, read_number, read_value}
use Rattle.text.specs.Writing.{digits, pointed, room, text_of, text, fits}
use Rattle.text.specs.Demands.{Demand2}
use Rattle.text.proofs.Numerals.{digit-range, digits-all, digits-length, number_digits, parts-digits}
use Rattle.text.proofs.Steps.{without-minus}
use Rattle.text.proofs.Texts.{enough-room, fitting, text-length}

-- ---- the point is found

pub no-point : (c : ℕ) → is_digit c ≡ true → c ≡ point → ⊥
no-point c d e = let p = digit-range c d in omega arith

point-after : (xs ys : List ℕ) → all_digits xs ≡ true → point_at (xs ++ (point ∷ ys)) ≡ length xs
point-after [] ys a = refl
point-after (x ∷ xs) ys a =
    let p = both (is_digit x) (all_digits xs) a in rw (ne_eqb x point (no-point x p.0), point-after xs ys p.1)

point-nowhere : (xs : List ℕ) → all_digits xs ≡ true → point_at xs ≡ length xs
point-nowhere [] a = refl
point-nowhere (x ∷ xs) a =
    let p = both (is_digit x) (all_digits xs) a in rw (ne_eqb x point (no-point x p.0), point-nowhere xs p.1)

with-point : (minus : Bool) (d : ℕ) (xs ys : List ℕ) → all_digits xs ≡ true
    → of_unsigned minus d (xs ++ (point ∷ ys)) ≡ of_parts minus d xs ys
with-point minus d xs ys a =
    rw (point-after xs ys a, take-append_seam xs (point ∷ ys), ← (add-one (length xs)), drop-append-add xs (point ∷ ys) 1)

without-point : (minus : Bool) (d : ℕ) (xs : List ℕ) → all_digits xs ≡ true → of_unsigned minus d xs ≡ of_parts minus d xs []
without-point minus d xs a = rw (point-nowhere xs a, take-length xs, drop_of_length-le xs {i = suc (length xs)} (omega arith))

-- ---- the digits of a size say that size

-- those before a point are digits too
front-digits : (j k size : ℕ) → all_digits (take j (digits k size)) ≡ true
front-digits j k size =
    let ds = digits k size in
    (parts-digits (take j ds) (drop j ds) (ap all_digits (take-append-drop j ds) ∙ digits-all k size)).0

module _ (minus : Bool) (k size : ℕ) (h : size < 10 ^ k) where
  -- as many digits after the point as decimals: the quotient is exact
  parts-say : (d : ℕ) (xs ys : List ℕ) → xs ++ ys ≡ digits k size → 1 ≤ k → length ys ≡ d
      → of_parts minus d xs ys ≡ Ok (signed minus size)
  parts-say d xs ys e some len =
      let l = ap length e ∙ digits-length k size in
      let number = ap (number_from 0) e ∙ number_digits k size ∙ mod-eq_of_lt h in
      let exact = mul-div_cancel (number_from 0 (xs ++ ys)) (one-le-pow d 10 (omega arith)) ∙ number in
      rw (ap all_digits e ∙ digits-all k size, le-leb 1 (length (xs ++ ys)) (omega arith), len)
      (ap (λ (n : ℕ). Ok (signed minus n)) exact)

  pointed-says : (d : ℕ) → d < k → of_unsigned minus d (pointed d (digits k size)) ≡ Ok (signed minus size)
  pointed-says zero few =
      let ds = digits k size in
      without-point minus 0 ds (digits-all k size) ∙ parts-say 0 ds [] (append-nil ds) (omega arith) refl
  pointed-says (suc d) few =
      let ds = digits k size in
      let len = digits-length k size in
      let j = length ds - suc d in
      let e = take-append-drop j ds in
      let y = length-drop j ds in
      with-point minus (suc d) (take j ds) (drop j ds) (front-digits j k size)
      ∙ parts-say (suc d) (take j ds) (drop j ds) e (omega arith) (omega arith)

-- ---- no digit is taken for a minus

first-digit : (xs ys : List ℕ) → all_digits xs ≡ true → 0 < length xs → get_or (xs ++ ys) 0 0 ≡ minus_sign → ⊥
first-digit [] ys a h e = omega arith
first-digit (x ∷ xs) ys a h e = let p = digit-range x (both (is_digit x) (all_digits xs) a).0 in omega arith

no_minus : (d k size : ℕ) → d < k → get_or (pointed d (digits k size)) 0 0 ≡ minus_sign → ⊥
no_minus zero k size h e =
    let ds = digits k size in
    let len = digits-length k size in
    first-digit ds [] (digits-all k size) (omega arith) (ap (λ (l : List ℕ). get_or l 0 0) (append-nil ds) ∙ e)
no_minus (suc d) k size h e =
    let ds = digits k size in
    let j = length ds - suc d in
    let len = digits-length k size in
    let x = length-take j ds in
    first-digit (take j ds) (point ∷ drop j ds) (front-digits j k size) (omega arith) e

-- ---- the whole text

module _ (width d size : ℕ) (wide : least_width ≤ width) (few : d ≤ most_decimals) where
  text_says : (minus : Bool) → size < 10 ^ room width d minus → of_text d (text_of width d minus size) ≡ Ok (signed minus size)
  text_says true h = pointed-says true (room width d true) size h d (enough-room width d true wide few).0
  text_says false h =
      let k = room width d false in
      let r = enough-room width d false wide few in
      let l = text-length width d false size wide few in
      sym (without-minus d (pointed d (digits k size)) (no_minus d k size r.0))
      ∙ pointed-says false k size h d r.0

pub demand-2 : Demand2
unfolding fits text read_number read_value
demand-2 width d v wide few f =
    let minus = lt_z v (pos 0) in
    let chars = text_of width d minus (nat_abs v) in
    let l = text-length width d minus (nat_abs v) wide few in
    let w = fitting width d v few f in
    let e = le-leb d most_decimals few in
    let s = le-leb (length chars) width (omega arith) in
    let room = ltb-true (nat_abs v) (10 ^ room width d minus) f in
    let r = text_says width d (nat_abs v) wide few minus room ∙ ap Ok (sym (by_sign v)) in
    record { is_written = rw w; is_read = rw (w, e, s, r); same = rw (w, e, s, r) }
