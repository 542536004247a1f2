-- The bytes of a frame as one number, whose bit i is bit i as sent: their CRC is so many shifts of that number, flipping bits is an
-- exclusive or of such numbers, and a mask flips as many bits, and those bits, as its number has ones.
-- Assumes nothing.
use mathlib.Core.Path.{◌≡◌, refl, sym, ap, ◌∙◌, subst}
use mathlib.Core.List.{List, [], ◌∷◌}
use Prim.Native.Nat.{ℕ, zero, suc, ◌+◌, ◌-◌, ◌*◌, ◌/◌, ◌%◌, ◌^◌, ◌<◌}
use native.Mathlib.Nat.{zero-lt-suc, add_comm, zero-div}
use native.Mathlib.Omega.{arith}
use lib.Arith.{digits_lt}
use lib.Bits.{bit_xor, xor_comm, xor_zero_r, xor_shifted, xor_block}
use lib.Count.{ones, ones_cat}
use lib.ListN.{length, get_or}
use lib.Pow.{pow-add, shr-shr, high, field, mod-mod-pow}
use Rattle.crc.specs.Crc.{Bytes, shifts, crc_from}
use Rattle.crc.specs.Damage.{bit_at, flip, flipped}
use Rattle.crc.proofs.Bytes.{rest-bytes}
use Rattle.crc.proofs.Xor.{xor_assoc}
use Rattle.crc.proofs.Shifts.{shifts-xor, shifts-low, shifts-add}

-- the later a byte is sent, the higher it stands
unfoldable pub as_sent : List ℕ → ℕ
as_sent [] = 0
as_sent (b ∷ f) = as_sent f * 2 ^ 8 + b

eight-more : (n : ℕ) → 8 + 8 * n ≡ 8 * suc n
eight-more n = omega arith

-- the CRC: a shift for each bit
pub crc-as-sent : (crc : ℕ) (f : List ℕ) → Bytes f → crc_from crc f ≡ shifts (8 * length f) (bit_xor crc (as_sent f))
unfolding crc_from shifts as_sent
crc-as-sent crc [] h = sym (xor_zero_r crc)
crc-as-sent crc (b ∷ f) h =
    let rest = as_sent f * 2 ^ 8 in
    let joined : bit_xor (bit_xor crc b) rest ≡ bit_xor crc (rest + b) =
    xor_assoc crc b rest ∙ ap (bit_xor crc) (xor_comm b rest ∙ xor_shifted (as_sent f) 8 b (h 0)) in
    let shifted : bit_xor (shifts 8 (bit_xor crc b)) (as_sent f) ≡ shifts 8 (bit_xor crc (rest + b)) =
    ap (bit_xor (shifts 8 (bit_xor crc b))) (sym (shifts-low 8 (as_sent f))) ∙ sym (shifts-xor 8 (bit_xor crc b) rest)
    ∙ ap (shifts 8) joined in
    crc-as-sent (shifts 8 (bit_xor crc b)) f (rest-bytes b f h) ∙ ap (shifts (8 * length f)) shifted
    ∙ sym (shifts-add 8 (8 * length f) (bit_xor crc (rest + b)))
    ∙ ap (λ (n : ℕ). shifts n (bit_xor crc (rest + b))) (eight-more (length f))

-- what arrives
pub flip-as-sent : (f m : List ℕ) → Bytes f → Bytes m → length m ≡ length f → as_sent (flip f m) ≡ bit_xor (as_sent f) (as_sent m)
unfolding as_sent flip
flip-as-sent [] [] hf hm e = refl
flip-as-sent [] (x ∷ m) hf hm e = absurd (omega arith)
flip-as-sent (b ∷ f) [] hf hm e = absurd (omega arith)
flip-as-sent (b ∷ f) (x ∷ m) hf hm e =
    ap (λ (n : ℕ). n * 2 ^ 8 + bit_xor b x) (flip-as-sent f m (rest-bytes b f hf) (rest-bytes x m hm) (omega arith))
    ∙ sym (xor_block 8 (as_sent f) (as_sent m) b x (hf 0) (hm 0))

-- it has no more bits than are sent
pub as-sent-small : (f : List ℕ) → Bytes f → as_sent f < 2 ^ (8 * length f)
unfolding as_sent
as-sent-small [] h = zero-lt-suc 0
as-sent-small (b ∷ f) h =
    subst (λ (n : ℕ). as_sent f * 2 ^ 8 + b < n)
    (sym (pow-add 2 (8 * length f) 8) ∙ ap (λ (n : ℕ). 2 ^ n) (add_comm (8 * length f) 8 ∙ eight-more (length f)))
    (digits_lt (as-sent-small f (rest-bytes b f h)) (h 0))

-- its ones
pub ones-as-sent : (m : List ℕ) → Bytes m → ones (as_sent m) ≡ flipped m
unfolding as_sent flipped ones
ones-as-sent [] h = refl
ones-as-sent (b ∷ m) h =
    ones_cat 8 (as_sent m) b (h 0) ∙ add_comm (ones (as_sent m)) (ones b)
    ∙ ap (λ (n : ℕ). ones b + n) (ones-as-sent m (rest-bytes b m h))

-- its byte j
byte-as-sent : (f : List ℕ) → Bytes f → (j : ℕ) → as_sent f / 2 ^ (8 * j) % 2 ^ 8 ≡ get_or f j 0
unfolding as_sent
byte-as-sent [] h j = ap (λ (n : ℕ). n % 2 ^ 8) (zero-div (2 ^ (8 * j)))
byte-as-sent (b ∷ f) h zero = let q : b < 256 = h 0 in omega arith
byte-as-sent (b ∷ f) h (suc j) =
    let whole = as_sent f * 2 ^ 8 + b in
    let above : whole / 2 ^ 8 / 2 ^ (8 * j) ≡ as_sent f / 2 ^ (8 * j) = ap (λ (n : ℕ). n / 2 ^ (8 * j)) (high (as_sent f) 8 (h 0)) in
    ap (λ (n : ℕ). whole / 2 ^ n % 2 ^ 8) (sym (eight-more j)) ∙ ap (λ (n : ℕ). n % 2 ^ 8) (sym (shr-shr whole 8 (8 * j)) ∙ above)
    ∙ byte-as-sent f (rest-bytes b f h) j

-- a number's bits 0 to 7 are those of its low byte
bit-of-byte : (n k : ℕ) → k < 8 → n / 2 ^ k % 2 ≡ n % 2 ^ 8 / 2 ^ k % 2
bit-of-byte n k h =
    let e : 7 - k + 1 + k ≡ 8 = omega arith in
    sym (mod-mod-pow (n / 2 ^ k) (7 - k) 1) ∙ ap (λ (x : ℕ). x % 2) (sym (field n (7 - k + 1) k))
    ∙ ap (λ (x : ℕ). n % 2 ^ x / 2 ^ k % 2) e

-- its bit i
pub bit-as-sent : (f : List ℕ) → Bytes f → (i : ℕ) → as_sent f / 2 ^ i % 2 ≡ bit_at f i
unfolding bit_at
bit-as-sent f h i =
    let e : i ≡ 8 * (i / 8) + i % 8 = omega arith in
    ap (λ (n : ℕ). as_sent f / 2 ^ n % 2) e ∙ ap (λ (n : ℕ). n % 2) (sym (shr-shr (as_sent f) (8 * (i / 8)) (i % 8)))
    ∙ bit-of-byte (as_sent f / 2 ^ (8 * (i / 8))) (i % 8) (omega arith)
    ∙ ap (λ (n : ℕ). n / 2 ^ (i % 8) % 2) (byte-as-sent f h (i / 8))
