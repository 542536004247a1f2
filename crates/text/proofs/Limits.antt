-- What fits, as document 01 gives it: values between two limits. And where both limits of an item fit, so does each value
-- between them.
-- Assumes nothing.
use mathlib.Core.Path.{◌≡◌, refl, sym, ap, ◌∙◌}
use mathlib.Core.Bool.{true, false, and-true}
use Prim.Native.Nat.{ℕ, zero, suc, ◌-◌, ◌^◌, ◌≤◌, zero-le}
use native.Mathlib.Nat.{one-le-pow}
use native.Mathlib.Omega.{arith}
use borrow.Author.Tests.{ltb-true, leb-true, lt-ltb, le-ltb, le-leb, lt-leb}
use lib.Dec.{leb, ltb, leb-suc-suc}
use lib.IntN.{ℤ, pos, negsuc}
use lib.Signed.{le_z}
use Rattle.sign.specs.Sign.{minus}
use Rattle.numbers.proofs.Tests.{contrary}
use Rattle.text.specs.Writing.{room, fits}
use Rattle.text.specs.Demands.{between, WhatFits}

smaller : (n m k : ℕ) → n ≤ m → ltb m (10 ^ k) ≡ true → ltb n (10 ^ k) ≡ true
smaller n m k h e = let p = ltb-true m (10 ^ k) e in lt-ltb n (10 ^ k) (omega arith)

-- n below the power is n at most all nines
nines : (k n : ℕ) → ltb n (10 ^ k) ≡ leb n (10 ^ k - 1)
nines k n =
    let h = one-le-pow k 10 (omega arith) in
    let e : 10 ^ k ≡ suc (10 ^ k - 1) = omega arith in
    ap (λ (p : ℕ). leb (suc n) p) e ∙ leb-suc-suc n (10 ^ k - 1)

minus-le : (k n : ℕ) → le_z (minus k) (pos n) ≡ true
minus-le zero n = le-leb 0 n zero-le
minus-le (suc k) n = refl

le-minus : (k n : ℕ) → leb (suc n) k ≡ le_z (minus k) (negsuc n)
le-minus zero n = lt-leb (suc n) 0 (omega arith)
le-minus (suc k) n = leb-suc-suc n k

pub fits-between : (width d : ℕ) (v : ℤ)
    → fits width d v ≡ between (minus (10 ^ room width d true - 1)) (pos (10 ^ room width d false - 1)) v
unfolding fits
fits-between width d (pos n) =
    rw (le-ltb n 0 zero-le, minus-le (10 ^ room width d true - 1) n) (nines (room width d false) n)
fits-between width d (negsuc n) =
    let most = 10 ^ room width d true - 1 in
    nines (room width d true) (suc n) ∙ le-minus most n ∙ sym (and-true (le_z (minus most) (negsuc n)))

-- document 01's figures
pub what-fits : WhatFits
what-fits = record { whole = fits-between 6 0; pointed = one-point }
  where
    one-point : (d : ℕ) (v : ℤ) → 1 ≤ d → d ≤ 3 → fits 6 d v ≡ between (minus 9999) (pos 99999) v
    one-point zero v h few = absurd (omega arith)
    one-point (suc d) v h few = fits-between 6 (suc d) v

-- the size of a value between two limits is at most that of the limit on its side of zero
pub between-fits : (width d : ℕ) (low high v : ℤ) → le_z low v ≡ true → le_z v high ≡ true → fits width d low ≡ true
    → fits width d high ≡ true → fits width d v ≡ true
unfolding fits
between-fits width d low (pos m) (pos n) l h fl fh =
    let a = leb-true n m h in
    rw (le-ltb n 0 zero-le) (smaller n m (room width d false) a (rw (le-ltb m 0 zero-le) at fh))
between-fits width d low (negsuc m) (pos n) l h fl fh = contrary (sym h)
between-fits width d (pos m) high (negsuc n) l h fl fh = contrary (sym l)
between-fits width d (negsuc m) high (negsuc n) l h fl fh =
    let a = leb-true n m l in smaller (suc n) (suc m) (room width d true) (omega arith) fl
