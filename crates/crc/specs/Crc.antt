-- The CRC-16 of Modbus RTU: start FFFFH, A001H, low bit first, low byte sent first. A frame is a body with its CRC behind it.
use Rattle.std.specs.Prelude.{◌≡◌, Bool, cond, ◌&&◌, List, [], ◌∷◌, ◌++◌, ℕ, zero, suc, ◌+◌, ◌-◌, ◌*◌, ◌/◌, ◌%◌, ◌<◌, eqb, leb, length, get_or, take, drop}
use Rattle.std.specs.Int.Bits.{bit_xor}

-- every element is a byte
abbrev pub Bytes : List ℕ → Type 0
Bytes bytes = (i : ℕ) → get_or bytes i 0 < 256

-- what the register holds before the first byte
abbrev pub start : ℕ
start = 0xFFFF

-- the polynomial x^16 + x^15 + x^2 + 1 without its first term; the lowest bit stands for x^15, since low bits are sent first
abbrev pub poly : ℕ
poly = 0xA001

-- One shift: the register moves one place down, and where a 1 falls out of it, exclusive or with the polynomial.
unfoldable pub shift : ℕ → ℕ
shift crc = bit_xor (crc / 2) (crc % 2 * poly)

-- n shifts
unfoldable pub shifts : ℕ → ℕ → ℕ
shifts zero crc = crc
shifts (suc n) crc = shifts n (shift crc)

-- The register after some bytes: for each in turn, exclusive or with the byte, and eight shifts.
unfoldable pub crc_from : ℕ → List ℕ → ℕ
crc_from crc [] = crc
crc_from crc (b ∷ bytes) = crc_from (shifts 8 (bit_xor crc b)) bytes

-- the CRC of some bytes
unfoldable pub crc16_of : List ℕ → ℕ
crc16_of bytes = crc_from start bytes

-- the two bytes of a 16-bit number as they are sent, the low one first
abbrev pub low_first : ℕ → List ℕ
low_first n = n % 256 ∷ n / 256 ∷ []

-- the frame of a body: the body, and its CRC behind it
unfoldable pub framed : List ℕ → List ℕ
framed body = body ++ low_first (crc16_of body)

-- the body of a frame: all but its last two bytes
abbrev pub body_of : List ℕ → List ℕ
body_of frame = take (length frame - 2) frame

-- the CRC that a frame brings: its last two bytes, the low one first
abbrev pub crc_in : List ℕ → ℕ
crc_in frame = get_or frame (length frame - 2) 0 + 256 * get_or frame (length frame - 1) 0

-- A frame is right where it has two bytes at least and brings the CRC of its body.
unfoldable pub is_right : List ℕ → Bool
is_right frame = leb 2 (length frame) && eqb (crc16_of (body_of frame)) (crc_in frame)

-- whether a buffer has room for a CRC behind its first n bytes
abbrev pub has_room : List ℕ → ℕ → Bool
has_room buffer n = leb (n + 2) (length buffer)

-- A buffer whose first n bytes were sealed starts with their frame, and all behind it stays; without room for the CRC all stays.
unfoldable pub sealed : List ℕ → ℕ → List ℕ
sealed buffer n = cond (has_room buffer n) (framed (take n buffer) ++ drop (n + 2) buffer) buffer

-- the length of that frame; 0 without room
unfoldable pub sealed_length : List ℕ → ℕ → ℕ
sealed_length buffer n = cond (has_room buffer n) (n + 2) 0

-- What sealing the first n bytes does: what the buffer holds afterwards, and the length handed back.
pub record Seals (before : List ℕ) (n : ℕ) (after : List ℕ) (len : ℕ) : Type 0 where
  pub buffer : after ≡ sealed before n
  pub handed : len ≡ sealed_length before n
