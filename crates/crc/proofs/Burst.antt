-- A number whose ones lie within 16 consecutive bits shifts to 0 only where it is 0: shifts take the zeros below them off first, and
-- what is left is a register of 16 bits.
-- Assumes nothing.
use mathlib.Core.Path.{◌≡◌, refl, sym, ap, ◌∙◌, subst}
use Prim.Native.Nat.{ℕ, zero, suc, ◌+◌, ◌/◌, ◌%◌, ◌^◌, ◌≤◌, ◌<◌}
use native.Mathlib.Numerals.{add-one, one-add}
use native.Mathlib.Omega.{arith}
use lib.Arith.{bin_ind}
use lib.Pow.{shr-shr, shr_lt}
use Rattle.crc.specs.Crc.{shifts}
use Rattle.crc.proofs.Shifts.{shift-even, shifts-keep}

-- bit i of a number's half is its bit i + 1
half-bit : (a i : ℕ) → a / 2 / 2 ^ i % 2 ≡ a / 2 ^ suc i % 2
half-bit a i = ap (λ (n : ℕ). n % 2) (shr-shr a 1 i ∙ ap (λ (k : ℕ). a / 2 ^ k) (one-add i))

half-small : (a n : ℕ) → a < 2 ^ suc n → a / 2 < 2 ^ n
half-small a n h = shr_lt n 1 (subst (λ (k : ℕ). a < 2 ^ k) (sym (add-one n)) h)

-- a number without ones is 0
no_ones : (a : ℕ) → ((i : ℕ) → a / 2 ^ i % 2 ≡ 0) → a ≡ 0
no_ones =
    bin_ind (λ (a : ℕ). ((i : ℕ) → a / 2 ^ i % 2 ≡ 0) → a ≡ 0) (λ h. refl)
    (λ a ih h.
    let low : a / 1 % 2 ≡ 0 = h 0 in
    let rest : a / 2 ≡ 0 = ih (λ i. half-bit a i ∙ h (suc i)) in
    omega arith)

-- a number without ones from bit 16 on
sixteen-bits : (a : ℕ) → ((i : ℕ) → a / 2 ^ i % 2 ≡ 1 → i < 16) → a < 2 ^ 16
sixteen-bits a h =
    let above : (i : ℕ) → a / 2 ^ 16 / 2 ^ i % 2 ≡ 0 =
    λ i.
    let no : a / 2 ^ (16 + i) % 2 ≡ 1 → ⊥ = λ e. let l : 16 + i < 16 = h (16 + i) e in omega arith in
    let z : a / 2 ^ (16 + i) % 2 ≡ 0 = omega arith in
    ap (λ (n : ℕ). n % 2) (shr-shr a 16 i) ∙ z in
    let z : a / 2 ^ 16 ≡ 0 = no_ones (a / 2 ^ 16) above in
    omega arith

pub burst-keeps : (k n a : ℕ) → a < 2 ^ n → ((i : ℕ) → a / 2 ^ i % 2 ≡ 1 → (k ≤ i) × (i < k + 16)) → shifts n a ≡ 0
    → a ≡ 0
unfolding shifts
burst-keeps zero n a h w e =
    shifts-keep n a (sixteen-bits a (λ i one. let q : (0 ≤ i) × (i < 0 + 16) = w i one in omega arith)) e
burst-keeps (suc k) zero a h w e = omega arith
burst-keeps (suc k) (suc n) a h w e =
    let no : a / 1 % 2 ≡ 1 → ⊥ = λ one. let q : (suc k ≤ 0) × (0 < suc k + 16) = w 0 one in omega arith in
    let even : a % 2 ≡ 0 = omega arith in
    let rest : a / 2 ≡ 0 =
    burst-keeps k n (a / 2) (half-small a n h)
    (λ i one. let q : (suc k ≤ suc i) × (suc i < suc k + 16) = w (suc i) (sym (half-bit a i) ∙ one) in omega arith)
    (ap (shifts n) (sym (shift-even a even)) ∙ e) in
    omega arith
