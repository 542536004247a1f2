-- The size of a float as digits and places, digits * 2 ^ places: a float is known by its sign and its size, and where the digits are even
-- it is even.
-- Assumes nothing.
use mathlib.Core.Path.{◌≡◌, refl, sym, ap, ◌∙◌}
use mathlib.Core.Bool.{Bool, true, false}
use Prim.Native.Nat.{ℕ, zero, suc, ◌+◌, ◌-◌, ◌*◌, ◌/◌, ◌%◌, ◌^◌, ◌≤◌, ◌<◌}
use native.Mathlib.Nat.{lt_of_lt_of_le, mul_assoc, mul-one, mul-le-mul_left, mul-le-mul_right, sub-add_cancel, eq_of_mul-eq-mul_right}
use native.Mathlib.Decide.{dec_le, dec_lt}
use native.Mathlib.Omega.{arith}
use borrow.Author.Tests.{ltb-true, leb-true, leb-false}
use lib.Dec.{ltb}
use lib.Pow.{pow-add, pow_pos, pow_mono, shl_lt}
use Rattle.numbers.proofs.Tests.{both}
use Rattle.floats.specs.Nearest.{is_minus, exponent, fraction, is_number, size_of}

-- ---- digits and places

-- digits for fewer places: some of the places are moved into the digits
pub moved : {j k : ℕ} (m : ℕ) → k ≤ j → m * 2 ^ (j - k) * 2 ^ k ≡ m * 2 ^ j
moved m h = rw (mul_assoc, ← pow-add, sub-add_cancel h)

-- 24 digits come to less than the first of 24 with more places
pub fewer-places : {j k : ℕ} (m : ℕ) → m < 2 ^ 24 → j < k → m * 2 ^ j < 2 ^ 23 * 2 ^ k
fewer-places {j} {k} m short l =
    lt_of_lt_of_le (shl_lt 24 j short) (rw (← pow-add 2 23 k) (pow_mono {i = 24 + j} {j = 23 + k} (omega arith)))

-- the digits and places of a float: with a place there are all 24 digits
pub record Written (p : ℕ) : Type 0 where
  pub digits : ℕ
  pub places : ℕ
  pub bits : p % 2 ^ 31 ≡ places * 2 ^ 23 + digits
  pub size : size_of p ≡ digits * 2 ^ places
  pub short : digits < 2 ^ 24
  pub full : 0 < places → 2 ^ 23 ≤ digits

-- each float has them
pub written : (p : ℕ) → Written p
written p = by (exponent p) refl
  where
    by : (x : ℕ) → exponent p ≡ x → Written p
    by zero e =
        let one = sym (mul-one (fraction p)) in
        record { digits = fraction p; places = 0; bits = omega arith; size = rw e one; short = omega arith; full = omega arith }
    by (suc x) e =
        record { digits = 2 ^ 23 + fraction p; places = x; bits = omega arith; size = rw e; short = omega arith; full = omega arith }

-- ---- two floats

-- with more places the size is larger
more-places : {p b : ℕ} (v : Written p) (w : Written b) → v.places < w.places → size_of p < size_of b
more-places v w l =
    rw (v.size, w.size)
    (lt_of_lt_of_le (fewer-places v.digits v.short l) (mul-le-mul_right (2 ^ w.places) (w.full (omega arith))))

-- with as many places and the same size the digits are the same
as-many-places : {p b : ℕ} (v : Written p) (w : Written b) → v.places ≡ w.places → size_of p ≡ size_of b → p % 2 ^ 31 ≡ b % 2 ^ 31
as-many-places v w e s =
    let d : v.digits ≡ w.digits = eq_of_mul-eq-mul_right (2 ^ w.places) (pow_pos w.places) v.digits w.digits (cc) in
    omega arith

-- of the same size two floats differ by the sign at most
same_size : {p b : ℕ} (v : Written p) (w : Written b) → size_of p ≡ size_of b → p % 2 ^ 31 ≡ b % 2 ^ 31
same_size v w s = elim (dec_lt v.places w.places) [
  | yes l ↦ absurd (omega (arith, more-places v w l))
  | no m ↦
      elim (dec_lt w.places v.places) [
        | yes l ↦ absurd (omega (arith, more-places w v l))
        | no n ↦ as-many-places v w (omega arith) s
      ]
]

-- the bits of a number are 32
in-width : (p : ℕ) → is_number p ≡ true → p < 2 ^ 32
in-width p is = ltb-true p (2 ^ 32) (both (ltb p (2 ^ 32)) (ltb (exponent p) 255) is).0

-- of the same sign too they are one
pub same_float : (p b : ℕ) → is_number p ≡ true → is_number b ≡ true → is_minus p ≡ is_minus b → size_of p ≡ size_of b → p ≡ b
same_float p b l m signs s = by (is_minus p) refl (in-width p l) (in-width b m) (same_size (written p) (written b) s)
  where
    by : (minus : Bool) → is_minus p ≡ minus → p < 2 ^ 32 → b < 2 ^ 32 → p % 2 ^ 31 ≡ b % 2 ^ 31 → p ≡ b
    by true e l m r = omega (arith, leb-true (2 ^ 31) p e, leb-true (2 ^ 31) b (sym signs ∙ e))
    by false e l m r = omega (arith, leb-false (2 ^ 31) p e, leb-false (2 ^ 31) b (sym signs ∙ e))

-- ---- an even float

-- an even number times any other is even
even-times : (c q : ℕ) → c % 2 ≡ 0 → c * q % 2 ≡ 0
even-times c q even = let h : c * q ≡ c / 2 * 2 * q = ap (λ (x : ℕ). x * q) (omega arith) in omega arith

module _ (p c k : ℕ) (s : size_of p ≡ c * 2 ^ k) (even : c % 2 ≡ 0) (w : Written p) where
  -- the digits are c and some of its places
  with-places : w.places ≤ k → p % 2 ≡ 0
  with-places l =
      let j = w.places in
      let q = 2 ^ (k - j) in
      let e : w.digits ≡ c * q = eq_of_mul-eq-mul_right (2 ^ j) (pow_pos j) w.digits (c * q) (sym w.size ∙ s ∙ sym (moved c l)) in
      omega (arith, even-times c q even)

  -- c is the digits and some of their places: then they are the first number of 24 digits
  from_places : c ≤ 2 ^ 24 → k < w.places → p % 2 ≡ 0
  from_places top l =
      let m = w.digits in
      let more = w.places - k in
      let e : m * 2 ^ more ≡ c = eq_of_mul-eq-mul_right (2 ^ k) (pow_pos k) (m * 2 ^ more) c (moved m (omega arith) ∙ sym w.size ∙ s) in
      omega (arith, mul-le-mul_left m (pow_mono {i = 1} {j = more} (omega arith)), w.full (omega arith))

-- a float of the size c * 2 ^ k is even where c is, if c has at most 24 digits or is the first number of 25
pub even-float : (p c k : ℕ) → size_of p ≡ c * 2 ^ k → c ≤ 2 ^ 24 → c % 2 ≡ 0 → p % 2 ≡ 0
even-float p c k s top even =
    let w = written p in
    elim (dec_le w.places k) [ yes l ↦ with-places p c k s even w l | no n ↦ from_places p c k s even w top (omega arith) ]
