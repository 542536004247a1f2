-- The quotient of two whole numbers that single precision has is their fraction, rounded once.
-- Assumes nothing.
use mathlib.Core.Path.{◌≡◌, refl, sym, ap, subst⁻¹, ◌∙◌}
use mathlib.Core.Bool.{Bool, true, false, not, ◌&&◌}
use Prim.Native.Nat.{ℕ, zero, suc, ◌+◌, ◌*◌, ◌^◌, ◌≤◌, ◌<◌}
use native.Mathlib.Nat.{mul_assoc, mul_comm, mul_left_comm, mul-one, mul-pos, one-le-pow, pow-le-pow_right, zero-mul}
use native.Mathlib.Omega.{arith}
use borrow.Author.Tests.{leb-true, le-leb, lt-ltb, le-ltb, ne_eqb}
use lib.Dec.{T, leb, ltb, leb-suc-suc}
use lib.Ieee.{Float, nan, inf, fin, Format, binary32, prec, low, emax, up, down, unlike, odd, units, round, div, of_int, in_float, is_nan, to_bits}
use lib.Ieee.Exact.{HasValue}
use lib.Ieee.Fits.{down_pos, round_is}
use lib.Ieee.Scale.{round_same}
use lib.Ieee.Back.{round_whole}
use lib.IntN.{ℤ, pos, negsuc, nat_abs}
use lib.Signed.{le_z, lt_z}
use Rattle.numbers.proofs.Tests.{both, chosen}
use Rattle.floats.specs.Quotient.{most_decimals, exact, quotient, float_bits}

-- ---- whole numbers that single precision has

-- a size up to a limit, by the two ends
pub within : (v : ℤ) (n : ℕ) → (le_z (negsuc n) v && le_z v (pos (suc n))) ≡ leb (nat_abs v) (suc n)
within (pos m) n = refl
within (negsuc m) n = same (leb m n) ∙ sym (leb-suc-suc m n)
  where
    same : (b : Bool) → (b && true) ≡ b
    same true = refl
    same false = refl

pub in-float : (v : ℤ) → nat_abs v ≤ 2 ^ 24 → T (in_float binary32 v)
unfolding in_float
in-float (pos n) h = rw (le-leb n (2 ^ 24) h) tt
in-float (negsuc n) h = rw (lt-ltb n (2 ^ 24) (omega arith)) tt

-- they keep their value
converted-plus : (n : ℕ) → n ≤ 2 ^ 24 → HasValue (of_int binary32 (pos n)) false n 1
unfolding of_int
converted-plus n h = round_whole binary32 false n h

converted : (v : ℤ) → nat_abs v ≤ 2 ^ 24 → HasValue (of_int binary32 v) (lt_z v (pos 0)) (nat_abs v) 1
unfolding of_int
converted (pos n) h = rw (le-ltb n 0 (omega arith)) (converted-plus n h)
converted (negsuc n) h = round_whole binary32 true (suc n) h

-- ---- their quotient

-- a number above zero divides: the sign is the first one's
module _ (s : Bool) (a b : ℕ) (above : 0 < b) where
  divided : (x y : Float) → HasValue x s a 1 → HasValue y false b 1 → div binary32 x y ≡ round binary32 s a b
  unfolding div
  divided nan y p q = absurd p
  divided (inf r) y p q = absurd p
  divided (fin r m e) nan p q = absurd q
  divided (fin r m e) (inf t) p q = absurd q
  divided (fin r m e) (fin t n d) p q =
      let first : m * up e ≡ a * down e = sym (mul-one (m * up e)) ∙ p.1 in
      let second : n * up d ≡ b * down d = sym (mul-one (n * up d)) ∙ q.1 in
      let some : 0 < b * down d = mul-pos above (down_pos d) in
      let none : n ≡ 0 → ⊥ = λ z. let product = ap (λ (k : ℕ). k * up d) z ∙ zero-mul (up d) in omega arith in
      rw (ne_eqb n 0 none, p.0, q.0, unlike-plus s)
      (round_same binary32 s (m * up e * down d) (n * up d * down e) a b (rw second (mul-pos some (down_pos e))) above
      (rw (first, second) (simp (mul_assoc, mul_comm, mul_left_comm))))
    where
      unlike-plus : (r : Bool) → unlike r false ≡ r
      unlike-plus true = refl
      unlike-plus false = refl

-- what is rounded to is a number, or too large for one
pub rounds-number : (f : Format) (s : Bool) (a b : ℕ) → T (not (is_nan (round f s a b)))
unfolding units odd is_nan
rounds-number f s a b = subst⁻¹ (λ (x : Float). T (not (is_nan x))) (round_is f s a b) (by_units _ _)
  where
    by-odd : (d q k l : ℕ) → T (not (is_nan (odd d s q k l)))
    by-odd d zero k l = tt
    by-odd d (suc q) k l = tt

    by_units : (q k : ℕ) → T (not (is_nan (units f s q k)))
    by_units q k = chosen (λ (x : Float). T (not (is_nan x))) (ltb (q * 2 ^ k) (2 ^ (low f + suc (emax f)))) (λ _. by-odd (suc (prec f)) q k (low f)) (λ _. tt)

pub quotient-rounds : (v : ℤ) (d : ℕ) → nat_abs v ≤ 2 ^ 24 → 10 ^ d ≤ 2 ^ 24
    → quotient v d ≡ round binary32 (lt_z v (pos 0)) (nat_abs v) (10 ^ d)
unfolding quotient
quotient-rounds v d h k =
    divided (lt_z v (pos 0)) (nat_abs v) (10 ^ d) (one-le-pow d 10 (omega arith)) (of_int binary32 v) (of_int binary32 (pos (10 ^ d)))
    (converted v h)
    (converted-plus (10 ^ d) k)

-- ---- where number and power are exact

pub is-exact : (v : ℤ) (d : ℕ) → exact v d ≡ true → (nat_abs v ≤ 2 ^ 24) × (d ≤ most_decimals)
is-exact v d e =
    let p = both (leb (nat_abs v) (2 ^ 24)) (leb d most_decimals) e in
    (leb-true (nat_abs v) (2 ^ 24) p.0, leb-true d most_decimals p.1)

module _ (v : ℤ) (d : ℕ) (e : exact v d ≡ true) where
  pub power_small : 10 ^ d ≤ 2 ^ 24
  power_small = let p = pow-le-pow_right {n = 10} (omega arith) (is-exact v d e).1 in omega arith

  pub exact-rounds : quotient v d ≡ round binary32 (lt_z v (pos 0)) (nat_abs v) (10 ^ d)
  exact-rounds = quotient-rounds v d (is-exact v d e).0 power_small

  pub exact-number : T (not (is_nan (quotient v d)))
  exact-number = subst⁻¹ (λ (x : Float). T (not (is_nan x))) exact-rounds (rounds-number binary32 (lt_z v (pos 0)) (nat_abs v) (10 ^ d))

  pub exact-bits : float_bits v d ≡ to_bits binary32 (quotient v d)
  unfolding float_bits
  exact-bits = rw e
