-- What the line can do to a frame, and which damage the CRC always shows. Damage is a mask: bytes, a 1 for each bit that is flipped.
use Rattle.std.specs.Prelude.{◌≡◌, ◌⊎◌, true, false, List, [], ◌∷◌, ℕ, ◌+◌, ◌/◌, ◌%◌, ◌^◌, ◌≤◌, ◌<◌, length, get_or}
use Rattle.std.specs.Int.Bits.{bit_xor}
use Rattle.std.specs.Int.Count.{ones}
use Rattle.crc.specs.Crc.{Bytes, is_right}

-- bit i as sent, counted from 0: the bytes in their order, and of each byte the lowest bit first
unfoldable pub bit_at : List ℕ → ℕ → ℕ
bit_at f i = get_or f (i / 8) 0 / 2 ^ (i % 8) % 2

-- what arrives of the frame f: each bit that is 1 in the mask m is the other way round
unfoldable pub flip : List ℕ → List ℕ → List ℕ
flip [] m = []
flip (b ∷ f) [] = b ∷ f
flip (b ∷ f) (x ∷ m) = bit_xor b x ∷ flip f m

-- how many bits a mask flips: its ones, counted as for parity
unfoldable pub flipped : List ℕ → ℕ
flipped [] = 0
flipped (x ∷ m) = ones x + flipped m

-- All bits that a mask flips lie within n consecutive bits as sent: for some k, each is one of the bits k to k + n - 1.
unfoldable pub Within : ℕ → List ℕ → Type 0
Within n m = (k : ℕ) × ((i : ℕ) → bit_at m i ≡ 1 → (k ≤ i) × (i < k + n))

-- A short burst: at least one bit is flipped, and all flipped bits lie within 16 consecutive bits as sent.
abbrev pub ShortBurst : List ℕ → Type 0
ShortBurst m = (0 < flipped m) × Within 16 m

-- An odd number of bits is flipped, wherever they lie.
abbrev pub OddFlips : List ℕ → Type 0
OddFlips m = flipped m % 2 ≡ 1

-- damage of one of the kinds that the CRC always shows
abbrev pub Damage : List ℕ → Type 0
Damage m = ShortBurst m ⊎ OddFlips m

-- A right frame f of 4 to 256 bytes is sent, and a mask m of its length says what the line flips in it.
pub record Sent (f m : List ℕ) : Type 0 where
  pub frame_bytes : Bytes f
  pub mask_bytes : Bytes m
  pub least : 4 ≤ length f
  pub most : length f ≤ 256
  pub same_length : length m ≡ length f
  pub right : is_right f ≡ true

-- What the CRC detects: where the line flips at least one bit of a right frame, and all within 16 consecutive bits, what arrives
-- is not right; nor is it where the line flips an odd number of bits.
pub record Detects : Type 0 where
  pub burst : (f m : List ℕ) → Sent f m → ShortBurst m → is_right (flip f m) ≡ false
  pub odd : (f m : List ℕ) → Sent f m → OddFlips m → is_right (flip f m) ≡ false

-- The damage m spoils the right frame f: it is of one of the kinds that the CRC always shows.
pub record Spoils (f m : List ℕ) : Type 0 where
  pub sent : Sent f m
  pub damage : Damage m
