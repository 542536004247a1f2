-- What shifts do, to numbers of any size: they respect the exclusive or, they take zeros off the low end, and several can be done at
-- once. A register of 16 bits stays one, and only 0 shifts to 0.
-- Assumes nothing.
use mathlib.Core.Path.{◌≡◌, refl, sym, ap, ap₂, ◌∙◌}
use Prim.Native.Nat.{ℕ, zero, suc, ◌+◌, ◌*◌, ◌/◌, ◌%◌, ◌^◌, ◌<◌}
use native.Mathlib.Nat.{zero-add, suc-add, mul-one, mod-lt}
use native.Mathlib.Omega.{arith}
use lib.Bits.{bit_xor, xor_zero_r, xor_lt, xor_shifted, shifted_half, shifted_even}
use lib.Pow.{split, pow_pos}
use Rattle.crc.specs.Crc.{poly, shift, shifts}
use Rattle.crc.proofs.Xor.{xor-odd, xor-half, xor-pairs, xor-zero}

-- a bit times the polynomial respects it
poly-xor : (x y : ℕ) → x < 2 → y < 2 → (x + y) % 2 * poly ≡ bit_xor (x * poly) (y * poly)
poly-xor zero zero hx hy = refl
poly-xor zero (suc zero) hx hy = refl
poly-xor (suc zero) zero hx hy = refl
poly-xor (suc zero) (suc zero) hx hy = refl
poly-xor zero (suc (suc y)) hx hy = absurd (omega arith)
poly-xor (suc zero) (suc (suc y)) hx hy = absurd (omega arith)
poly-xor (suc (suc x)) y hx hy = absurd (omega arith)

shift-xor : (a b : ℕ) → shift (bit_xor a b) ≡ bit_xor (shift a) (shift b)
unfolding shift
shift-xor a b =
    ap₂ (λ (x y : ℕ). bit_xor x (y * poly)) (xor-half a b) (xor-odd a b)
    ∙ ap (bit_xor (bit_xor (a / 2) (b / 2))) (poly-xor (a % 2) (b % 2) (omega arith) (omega arith))
    ∙ xor-pairs (a / 2) (b / 2) (a % 2 * poly) (b % 2 * poly)

-- shifts of an exclusive or
pub shifts-xor : (n a b : ℕ) → shifts n (bit_xor a b) ≡ bit_xor (shifts n a) (shifts n b)
unfolding shifts
shifts-xor zero a b = refl
shifts-xor (suc n) a b = ap (shifts n) (shift-xor a b) ∙ shifts-xor n (shift a) (shift b)

pub shifts-zero : (n : ℕ) → shifts n 0 ≡ 0
unfolding shifts shift
shifts-zero zero = refl
shifts-zero (suc n) = shifts-zero n

-- m shifts and then n
pub shifts-add : (m n a : ℕ) → shifts (m + n) a ≡ shifts n (shifts m a)
unfolding shifts
shifts-add zero n a = ap (λ (k : ℕ). shifts k a) (zero-add n)
shifts-add (suc m) n a = ap (λ (k : ℕ). shifts k a) (suc-add m n) ∙ shifts-add m n (shift a)

-- an even number is only halved
pub shift-even : (a : ℕ) → a % 2 ≡ 0 → shift a ≡ a / 2
unfolding shift
shift-even a e = ap (λ (x : ℕ). bit_xor (a / 2) (x * poly)) e ∙ xor_zero_r (a / 2)

-- n shifts take n zeros off the low end
pub shifts-low : (n a : ℕ) → shifts n (a * 2 ^ n) ≡ a
unfolding shifts
shifts-low zero a = mul-one a
shifts-low (suc n) a = ap (shifts n) (shift-even (a * 2 ^ suc n) (shifted_even a n) ∙ shifted_half a n) ∙ shifts-low n a

-- n shifts at once: all bits but the n lowest move n places down, exclusive or with what n shifts make of the n lowest alone
pub shifts-at-once : (n a : ℕ) → shifts n a ≡ bit_xor (a / 2 ^ n) (shifts n (a % 2 ^ n))
shifts-at-once n a =
    let low = a % 2 ^ n in
    ap (shifts n) (sym (split a n) ∙ sym (xor_shifted (a / 2 ^ n) n low (mod-lt a (pow_pos n))))
    ∙ shifts-xor n (a / 2 ^ n * 2 ^ n) low ∙ ap (λ (x : ℕ). bit_xor x (shifts n low)) (shifts-low n (a / 2 ^ n))

shift_small : (a : ℕ) → a < 2 ^ 16 → shift a < 2 ^ 16
unfolding shift
shift_small a h = xor_lt 16 (a / 2) (a % 2 * poly) (omega arith) (omega arith)

pub shifts-small : (n a : ℕ) → a < 2 ^ 16 → shifts n a < 2 ^ 16
unfolding shifts
shifts-small zero a h = h
shifts-small (suc n) a h = shifts-small n (shift a) (shift_small a h)

-- Of the registers of 16 bits only 0 shifts to 0: an odd one takes on the polynomial's top bit, which its half lacks.
shift-keeps : (a : ℕ) → a < 2 ^ 16 → shift a ≡ 0 → a ≡ 0
unfolding shift
shift-keeps a h e = go (a % 2) refl
  where
    go : (bit : ℕ) → a % 2 ≡ bit → a ≡ 0
    go zero p = let q : a / 2 ≡ 0 = sym (shift-even a p) ∙ e in omega arith
    go (suc zero) p =
        let q : a / 2 ≡ poly = xor-zero (a / 2) poly (sym (ap (λ (x : ℕ). bit_xor (a / 2) (x * poly)) p) ∙ e) in
        omega arith
    go (suc (suc bit)) p = omega arith

pub shifts-keep : (n a : ℕ) → a < 2 ^ 16 → shifts n a ≡ 0 → a ≡ 0
unfolding shifts
shifts-keep zero a h e = e
shifts-keep (suc n) a h e = shift-keeps a h (shifts-keep n (shift a) (shift_small a h) e)
