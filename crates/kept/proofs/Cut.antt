-- The cut at the count: what it keeps of a list, and that it is the bytes of a remainder of the number that the list makes.
-- Assumes nothing.
use mathlib.Core.Path.{◌≡◌, refl, ap}
use mathlib.Core.List.{List, [], ◌∷◌}
use Prim.Native.Nat.{ℕ, zero, suc, ◌+◌, ◌*◌, ◌/◌, ◌%◌, ◌^◌, ◌<◌, ◌≤◌}
use native.Mathlib.Nat.{one-le-pow, pow-suc, mod-one}
use native.Mathlib.Omega.{arith}
use lib.Arith.{mod-mul}
use lib.ListN.{length, get_or, take}
use lib.Pow.{pow-add}
use Rattle.kept.specs.Bytes.{from_low, low_first}
use Rattle.kept.specs.Kept.{up_to}

-- ---- what it keeps

-- a count from the list's length on keeps all
pub up-to-all : (n : ℕ) (l : List ℕ) → length l ≤ n → up_to n l ≡ l
up-to-all n [] h = refl
up-to-all zero (c ∷ cs) h = absurd (omega arith)
up-to-all (suc n) (c ∷ cs) h = ap (λ (r : List ℕ). c ∷ r) (up-to-all n cs (omega arith))

-- what is past the count keeps its places
pub up-to-length : (n : ℕ) (l : List ℕ) → length (up_to n l) ≡ length l
up-to-length n [] = refl
up-to-length zero (c ∷ cs) = ap suc (up-to-length zero cs)
up-to-length (suc n) (c ∷ cs) = ap suc (up-to-length n cs)

pub up-to-at : (n : ℕ) (l : List ℕ) (i : ℕ) → i < n → get_or (up_to n l) i 0 ≡ get_or l i 0
up-to-at n [] i h = refl
up-to-at zero (c ∷ cs) i h = absurd (omega arith)
up-to-at (suc n) (c ∷ cs) zero h = refl
up-to-at (suc n) (c ∷ cs) (suc i) h = up-to-at n cs i (omega arith)

pub up-to-take : (n : ℕ) (l : List ℕ) → take n (up_to n l) ≡ take n l
up-to-take n [] = refl
up-to-take zero (c ∷ cs) = refl
up-to-take (suc n) (c ∷ cs) = ap (λ (r : List ℕ). c ∷ r) (up-to-take n cs)

-- ---- below the list's length, what is left of the number

low-zero : (l : List ℕ) → low_first (length l) 0 ≡ up_to zero l
low-zero [] = refl
low-zero (c ∷ cs) = ap (λ (r : List ℕ). 0 ∷ r) (low-zero cs)

-- a byte stays below a remainder of one byte more
byte-below : (n b m : ℕ) → b < 256 → (b + 256 * m) % 256 ^ suc n ≡ 256 * (m % 256 ^ n) + b
byte-below n b m h =
    let e : (b + 256 * m) / 256 ≡ m = omega arith in
    let f : (b + 256 * m) % 256 ≡ b = omega arith in
    rw (pow-suc 256 n, mod-mul (b + 256 * m) {m = 256 ^ n} {c = 256} (one-le-pow n 256 (omega arith)) (omega arith), e, f) (omega arith)

pub low-up-to : (n : ℕ) (l : List ℕ) → ((i : ℕ) → get_or l i 0 < 256) → low_first (length l) (from_low l % 256 ^ n) ≡ up_to n l
low-up-to n [] h = refl
low-up-to zero (c ∷ cs) h = rw (mod-one (from_low (c ∷ cs))) (low-zero (c ∷ cs))
low-up-to (suc n) (c ∷ cs) h =
    let small = h 0 in
    let m = from_low cs % 256 ^ n in
    let e : (256 * m + c) % 256 ≡ c = omega arith in
    let f : (256 * m + c) / 256 ≡ m = omega arith in
    rw (byte-below n c (from_low cs) small, e, f) (ap (λ (r : List ℕ). c ∷ r) (low-up-to n cs (λ i. h (suc i))))

-- ---- the power by a shift

pub bits-bytes : (n : ℕ) → 2 ^ (8 * n) ≡ 256 ^ n
bits-bytes zero = refl
bits-bytes (suc n) =
    let e : 8 * suc n ≡ 8 * n + 8 = omega arith in
    rw (e, pow-add 2 (8 * n) 8, bits-bytes n, pow-suc 256 n)
