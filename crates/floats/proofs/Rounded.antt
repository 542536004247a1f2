-- What the bits say that are written for a rounded fraction: a number, of the fraction's sign, and of the size that is kept of it.
-- Assumes nothing.
use mathlib.Core.Path.{◌≡◌, refl, sym, ◌∙◌}
use mathlib.Core.Bool.{Bool, true, false, cond}
use Prim.Native.Nat.{ℕ, zero, suc, ◌+◌, ◌*◌, ◌/◌, ◌%◌, ◌^◌, ◌≤◌, ◌<◌, compare}
use native.Mathlib.Nat.{le_trans, lt_of_le_of_lt, mod-lt, mul-one, mul-le-mul, mul-le-mul_right, eq_of_mul-eq-mul_right, div-le_self, div-div-eq-div-mul, le-div_iff_mul-le}
use native.Mathlib.Omega.{arith}
use borrow.Author.Tests.{eqb-false, lt-ltb}
use lib.Dec.{eqb, lit<}
use lib.Pow.{field, pow-add, pow_mono}
use lib.Ieee.{Float, nan, inf, fin, binary32, down, odd, round, of_fields, of_bits, to_bits}
use lib.Ieee.Bits.{of_bits-to_bits, to_bits-lt}
use lib.Ieee.Digits.{size-le, size_reaches}
use lib.Ieee.Exact.{HasValue, odd_sign, units_val}
use lib.Ieee.Fits.{down_pos, kept-lt, nearest-le, round-fits, round_is}
use lib.Ieee.Order.{drop, kept}
use Rattle.floats.specs.Nearest.{is_minus, exponent, fraction, is_number, size_by, size_of}

-- ---- what bits say, by the value that is read from them

-- a float has one sign and one size
one_value : (x : Float) (c : ℕ) {s t : Bool} {a b : ℕ} → HasValue x s a c → HasValue x t b c → (s ≡ t) × (a ≡ b)
one_value nan c v w = absurd v
one_value (inf r) c v w = absurd v
one_value (fin r m e) c {a = a} {b = b} v w = (sym v.0 ∙ w.0, eq_of_mul-eq-mul_right (down e) (down_pos e) a b (sym v.1 ∙ w.1))

-- an exponent below the last, this sign and this size
record Says (minus s : Bool) (x t a : ℕ) : Type 0 where
  below : x < 255
  sign : minus ≡ s
  size : size_by x t ≡ a

module _ (minus s : Bool) (t a : ℕ) where
  -- the last exponent says no value, and each other says the size by the fraction
  by-exponent : (x : ℕ) → x < 2 ^ 8 → HasValue (of_fields binary32 minus x t) s a (2 ^ 149) → Says minus s x t a
  unfolding of_fields
  by-exponent zero l v =
      let h = one_value (odd 24 minus t 0 149) (2 ^ 149) (odd_sign 24 minus t 0 149) v in
      record { below = omega arith; sign = h.0; size = sym (mul-one t) ∙ h.1 }
  by-exponent (suc x) l v = by (eqb (suc x) 255) refl (eqb t 0) v
    where
      by : (last : Bool) → eqb (suc x) 255 ≡ last → (infinite : Bool)
          → HasValue (cond last (cond infinite (inf minus) nan) (odd 24 minus (2 ^ 23 + t) x 149)) s a (2 ^ 149) → Says minus s (suc x) t a
      by true e true v = absurd v
      by true e false v = absurd v
      by false e infinite v =
          let h = one_value (odd 24 minus (2 ^ 23 + t) x 149) (2 ^ 149) (odd_sign 24 minus (2 ^ 23 + t) x 149) v in
          record { below = omega (arith, eqb-false (suc x) 255 e); sign = h.0; size = h.1 }

-- the sign, the exponent and the fraction of the bits
says : (p : ℕ) (s : Bool) (a : ℕ) → HasValue (of_bits binary32 p) s a (2 ^ 149) → Says (is_minus p) s (exponent p) (fraction p) a
unfolding of_bits
says p s a v = by-exponent (is_minus p) s (fraction p) a (exponent p) (mod-lt (p / 2 ^ 23) (omega arith)) (rw (← field p 8 23) v)

-- ---- what is kept of n / den, a count of smallest floats

module _ (n den : ℕ) where
  -- at most 24 digits, or the first number of 25
  pub few-digits : kept 24 n den ≤ 2 ^ 24
  few-digits =
      let u = den * 2 ^ drop 24 n den in
      le_trans (nearest-le (n / u) (compare (n % u * 2) u)) (rw (← div-div-eq-div-mul n den (2 ^ drop 24 n den)) (kept-lt 24 (n / den)))

  -- where digits are dropped there are 24 before them
  pub reached : 0 < den → 0 < drop 24 n den → 2 ^ 23 * (den * 2 ^ drop 24 n den) ≤ n
  reached above some =
      let k = drop 24 n den in
      let h : 2 ^ (23 + k) * den ≤ n = (le-div_iff_mul-le above).0 (size_reaches (n / den) (23 + k) (omega arith)) in
      omega (arith, rw (pow-add 2 23 k) at h)

  -- it is far below the infinities
  in-range : n ≤ 2 ^ 173 → kept 24 n den * 2 ^ drop 24 n den < 2 ^ 277
  in-range small =
      let size = size-le (n / den) 174 (lt_of_le_of_lt (le_trans (div-le_self n den) small) (lit< tt)) in
      lt_of_le_of_lt (mul-le-mul few-digits (pow_mono {j = 150} (omega arith))) (lit< tt)

-- ---- the bits that are written for it

-- a number of this sign, with the digits that are kept and the places that are dropped
pub record Rounded (s : Bool) (n den b : ℕ) : Type 0 where
  pub number : is_number b ≡ true
  pub sign : is_minus b ≡ s
  pub size : size_of b ≡ kept 24 n den * 2 ^ drop 24 n den

-- such bits are written for a fraction of whole numbers
pub rounded : (s : Bool) (a den : ℕ) → a ≤ 2 ^ 24 → Rounded s (a * 2 ^ 149) den (to_bits binary32 (round binary32 s a den))
rounded s a den small =
    let n = a * 2 ^ 149 in
    let c = kept 24 n den in
    let k = drop 24 n den in
    let x = round binary32 s a den in
    let b = to_bits binary32 x in
    let fits = round-fits binary32 s a den in
    let range = in-range n den (mul-le-mul_right (2 ^ 149) small) in
    let value : HasValue x s (c * 2 ^ k) (2 ^ 149) = rw (round_is binary32 s a den) (units_val binary32 s c k range) in
    let said = says b s (c * 2 ^ k) (rw (of_bits-to_bits binary32 x fits) value) in
    let number : is_number b ≡ true = rw (lt-ltb b (2 ^ 32) (to_bits-lt binary32 x fits), lt-ltb (exponent b) 255 said.below) in
    record { number = number; sign = said.sign; size = said.size }
