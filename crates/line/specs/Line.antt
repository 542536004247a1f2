-- Characters on the RKC line.
use Rattle.std.specs.Prelude.{Bool, cond, ◌&&◌, List, [], ◌∷◌, ℕ, ◌+◌, ◌%◌, leb, ltb, eqb}
use Rattle.std.specs.Int.Bits.{bit_xor}
use Rattle.std.specs.Int.Count.{ones}

-- the control characters
abbrev pub STX : ℕ
STX = 0x02

abbrev pub ETX : ℕ
ETX = 0x03

abbrev pub EOT : ℕ
EOT = 0x04

abbrev pub ENQ : ℕ
ENQ = 0x05

abbrev pub ACK : ℕ
ACK = 0x06

abbrev pub NAK : ℕ
NAK = 0x15

-- the line structures are 0, 1 and 2
abbrev pub last_structure : ℕ
last_structure = 2

-- the bit above the seven of a character
abbrev pub top_bit : ℕ
top_bit = 0x80

abbrev pub low_seven : ℕ → ℕ
low_seven c = c % top_bit

-- the number of ones modulo 2 that a structure asks for: 0 (even) in structure 1, 1 (odd) in structure 2. Callers refuse a
-- structure over 2 before they come here; it is read as 2
abbrev pub parity : ℕ → ℕ
parity structure = cond (eqb structure 1) 0 1

-- whether a byte keeps the line structure: in structure 0 the top bit is 0, in the others the number of ones has the parity
unfoldable pub keeps : ℕ → ℕ → Bool
keeps structure byte = cond (eqb structure 0) (ltb byte top_bit) (eqb (ones byte % 2) (parity structure))

-- the low seven bits, with the top bit added unless the structure is kept: in what is heard it is the mark of a line error,
-- in what is sent it makes the parity that seven bits alone lack
abbrev pub top_unless : Bool → ℕ → ℕ
top_unless kept c = cond kept (low_seven c) (low_seven c + top_bit)

-- a byte as it is heard: its low seven bits, and 80H more where it breaks the structure
unfoldable pub heard : ℕ → ℕ → ℕ
heard structure byte = top_unless (keeps structure byte) byte

-- what was heard is a line error, and so no character
abbrev pub is_line_error : ℕ → Bool
is_line_error c = leb top_bit c

-- a character as it is sent: its seven bits, and the top bit where they alone break the structure
unfoldable pub sent : ℕ → ℕ → ℕ
sent structure c = top_unless (keeps structure (low_seven c)) c

-- a BCC with further characters taken into it, each by exclusive or
unfoldable pub bcc_from : ℕ → List ℕ → ℕ
bcc_from sum [] = sum
bcc_from sum (c ∷ cs) = bcc_from (bit_xor sum c) cs

-- the BCC of characters: their exclusive or
abbrev pub bcc : List ℕ → ℕ
bcc chars = bcc_from 0 chars

-- x from a to b
abbrev pub within : ℕ → ℕ → ℕ → Bool
within a b x = leb a x && leb x b

-- a character that an identifier may have, 20H to 7EH; DEL (7FH) is none
abbrev pub printable : ℕ → Bool
printable c = within 0x20 0x7E c
