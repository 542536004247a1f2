-- What the crates above use of signed numbers: what the machine reads back, when two are the same, and what a comparison with zero
-- tells of the sign and the size.
-- Assumes nothing.
use mathlib.Core.Path.{◌≡◌, refl, sym, ap, ap₂, ◌∙◌}
use mathlib.Core.Bool.{Bool, true, false}
use Prim.Native.Nat.{ℕ, suc, ◌<◌, ◌^◌, zero-le}
use native.Mathlib.Nat.{zero-add, not-suc-le-zero}
use native.Mathlib.Omega.{arith}
use borrow.Author.Tests.{eq-eqb, eqb-true, eqb-false, ltb-true, lt-ltb, le-ltb}
use lib.Dec.{eqb}
use lib.IntN.{ℤ, pos, negsuc, nat_abs, ◌-ℤ◌}
use lib.Signed.{lt_z, mag, nat_abs-le}
use mir.Syntax.{w32, w64}
use mir.Val.{SFits, to_z, of_z}
use mir.Facts.{to_z-of_z, sfits_widen}
use Rattle.numbers.proofs.Tests.{contrary}
use Rattle.sign.specs.Sign.{signed, made, eq_z}

-- what the machine reads back of a number that fits an i32 is that number
pub same : (v : ℤ) → mag v < 2 ^ 31 → to_z w32 (of_z w32 v) ≡ v
same v h = to_z-of_z {w = w32} (record { sfits = h })

-- two numbers are the same where `eq_z` says so, and `eq_z` says so of each number and itself
pub eq_z-true : (a b : ℤ) → eq_z a b ≡ true → a ≡ b
eq_z-true (pos m) (pos n) e = ap pos (eqb-true m n e)
eq_z-true (pos m) (negsuc n) e = contrary (sym e)
eq_z-true (negsuc m) (pos n) e = contrary (sym e)
eq_z-true (negsuc m) (negsuc n) e = ap negsuc (eqb-true m n e)

pub eq_z-same : (a : ℤ) → eq_z a a ≡ true
eq_z-same (pos n) = eq-eqb n n refl
eq_z-same (negsuc n) = eq-eqb n n refl

-- the machine compares the bits of two numbers, which tells the same of those that fit an i32
pub equal_of : (a b : ℤ) → mag a < 2 ^ 31 → mag b < 2 ^ 31 → eqb (of_z w32 a) (of_z w32 b) ≡ eq_z a b
equal_of a b fa fb = by (eqb (of_z w32 a) (of_z w32 b)) (eq_z a b) refl refl
  where
    by : (x y : Bool) → eqb (of_z w32 a) (of_z w32 b) ≡ x → eq_z a b ≡ y → eqb (of_z w32 a) (of_z w32 b) ≡ eq_z a b
    by true y p q =
        let alike = sym (same a fa) ∙ ap (to_z w32) (eqb-true (of_z w32 a) (of_z w32 b) p) ∙ same b fb in
        p ∙ sym (eq_z-same a) ∙ ap (eq_z a) alike
    by false true p q = absurd (eqb-false (of_z w32 a) (of_z w32 b) p (ap (of_z w32) (eq_z-true a b q)))
    by false false p q = p ∙ sym q

-- what `less` and `size` ensure at a call, of the numbers that its arguments stand for
pub less-of : (a b : ℤ) → mag a < 2 ^ 31 → mag b < 2 ^ 31 → {r : Bool} → r ≡ lt_z (to_z w32 (of_z w32 a)) (to_z w32 (of_z w32 b)) → r ≡ lt_z a b
less-of a b fa fb e = e ∙ ap₂ lt_z (same a fa) (same b fb)

pub size_of : (v : ℤ) → mag v < 2 ^ 31 → {n : ℕ} → n ≡ nat_abs (to_z w32 (of_z w32 v)) → n ≡ nat_abs v
size_of v h e = e ∙ ap nat_abs (same v h)

-- what `make` ensures, of a size that an i32 has
pub make-of : (below : Bool) (n : ℕ) (r : ℤ) → n < 2 ^ 31 → r ≡ made below n → r ≡ signed below n
make-of below n r h e = e ∙ rw (lt-ltb n (2 ^ 31) h)

-- below zero, zero minus the number is its size; else the number is its size
pub below-zero : (v : ℤ) → lt_z v (pos 0) ≡ true → pos 0 -ℤ v ≡ pos (nat_abs v)
below-zero (pos n) t = let h = ltb-true n 0 t in absurd (not-suc-le-zero h)
below-zero (negsuc n) t = ap pos (zero-add (suc n))

pub not-below-zero : (v : ℤ) → lt_z v (pos 0) ≡ false → v ≡ pos (nat_abs v)
not-below-zero (pos n) t = refl
not-below-zero (negsuc n) t = contrary t

-- a number is its sign and its size
pub by_sign : (v : ℤ) → v ≡ signed (lt_z v (pos 0)) (nat_abs v)
by_sign (pos n) = rw (le-ltb n 0 zero-le)
by_sign (negsuc n) = refl

module _ (v : ℤ) (f : SFits w32 v) where
  pub read_back : to_z w32 (of_z w32 v) ≡ v
  read_back = to_z-of_z f

  pub size_small : nat_abs v < 2 ^ 32
  size_small = let h = nat_abs-le v f.sfits in omega arith

  pub widened : to_z w64 (of_z w64 (to_z w32 (of_z w32 v))) ≡ v
  widened = ap (λ (z : ℤ). to_z w64 (of_z w64 z)) read_back ∙ to_z-of_z {w = w64} (sfits_widen tt f)
