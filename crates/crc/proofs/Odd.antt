-- Shifts keep the number of ones even or odd: where a one falls out, the polynomial brings three.
-- Assumes nothing.
use mathlib.Core.Path.{◌≡◌, refl, ap, ◌∙◌}
use Prim.Native.Nat.{ℕ, zero, suc, ◌+◌, ◌*◌, ◌/◌, ◌%◌, ◌<◌}
use native.Mathlib.Omega.{arith}
use lib.Arith.{bin_ind}
use lib.Bits.{bit_xor}
use lib.Count.{ones, ones_step, ones_cat}
use lib.Dec.{lit<}
use Rattle.crc.specs.Crc.{poly, shift, shifts}
use Rattle.crc.proofs.Xor.{xor-odd, xor-half}

pub ones-zero : ones 0 ≡ 0
unfolding ones
ones-zero = refl

-- counted by its two bytes
two-counts : ones (poly / 256) + ones (poly % 256) ≡ 3
unfolding ones
two-counts = refl

ones-poly : ones poly ≡ 3
ones-poly = ones_cat 8 (poly / 256) (poly % 256) (lit< tt) ∙ two-counts

-- what a bit brings
ones-bit-poly : (x : ℕ) → x < 2 → ones (x * poly) % 2 ≡ x
ones-bit-poly zero h = ap (λ (n : ℕ). n % 2) ones-zero
ones-bit-poly (suc zero) h = ap (λ (n : ℕ). n % 2) ones-poly
ones-bit-poly (suc (suc x)) h = absurd (omega arith)

sum-odd : (x y u v : ℕ) → x % 2 ≡ y % 2 → u % 2 ≡ v % 2 → (x + u) % 2 ≡ (y + v) % 2
sum-odd x y u v p q = omega arith

ones-xor : (a b : ℕ) → ones (bit_xor a b) % 2 ≡ (ones a + ones b) % 2
ones-xor =
    bin_ind (λ (a : ℕ). (b : ℕ) → ones (bit_xor a b) % 2 ≡ (ones a + ones b) % 2) (λ b. let z = ones-zero in omega arith)
    (λ a ih b.
    let s : ones (bit_xor a b) ≡ bit_xor a b % 2 + ones (bit_xor (a / 2) (b / 2)) =
    ones_step (bit_xor a b) ∙ ap (λ (n : ℕ). bit_xor a b % 2 + ones n) (xor-half a b) in
    let t : a % 2 + b % 2 + (ones (a / 2) + ones (b / 2)) ≡ ones a + ones b = omega (arith, ones_step a, ones_step b) in
    ap (λ (n : ℕ). n % 2) s
    ∙ sum-odd (bit_xor a b % 2) (a % 2 + b % 2) (ones (bit_xor (a / 2) (b / 2))) (ones (a / 2) + ones (b / 2))
    (omega (arith, xor-odd a b)) (ih (b / 2))
    ∙ ap (λ (n : ℕ). n % 2) t)

shift-odd : (a : ℕ) → ones (shift a) % 2 ≡ ones a % 2
unfolding shift
shift-odd a = omega (arith, ones-xor (a / 2) (a % 2 * poly), ones-bit-poly (a % 2) (omega arith), ones_step a)

pub shifts-odd : (n a : ℕ) → ones (shifts n a) % 2 ≡ ones a % 2
unfolding shifts
shifts-odd zero a = refl
shifts-odd (suc n) a = shifts-odd n (shift a) ∙ shift-odd a
