-- Hexadecimal both ways: two characters for each byte, 0 to 9 and A to F, that of its high half first.
use Rattle.std.specs.Prelude.{ℕ, ◌+◌, ◌-◌, ◌*◌, ◌/◌, ◌%◌, Bool, true, cond, ◌&&◌, ◌||◌, List, [], ◌∷◌, nat_le, nat_lt}

-- the first and the last of the digits, and of the letters
abbrev pub zero_digit : ℕ
zero_digit = 0x30

abbrev pub nine_digit : ℕ
nine_digit = 0x39

abbrev pub first_letter : ℕ
first_letter = 0x41

abbrev pub last_letter : ℕ
last_letter = 0x46

-- ---- from bytes

-- the character of half a byte: 0 to 9, and A to F for 10 to 15
unfoldable pub digit_of : ℕ → ℕ
digit_of half = cond (nat_lt half 10) (zero_digit + half) (first_letter + (half - 10))

-- the characters of some bytes
unfoldable pub hex_of : List ℕ → List ℕ
hex_of [] = []
hex_of (b ∷ bytes) = digit_of (b / 16) ∷ digit_of (b % 16) ∷ hex_of bytes

-- ---- to bytes

-- 0 to 9 and A to F are hexadecimal, and nothing else is: no lower case
unfoldable pub is_hex : ℕ → Bool
is_hex c = (nat_le zero_digit c && nat_le c nine_digit) || (nat_le first_letter c && nat_le c last_letter)

abbrev pub all_hex : List ℕ → Bool
all_hex [] = true
all_hex (c ∷ characters) = is_hex c && all_hex characters

-- the half byte that such a character stands for
unfoldable pub half_of : ℕ → ℕ
half_of c = cond (nat_le c nine_digit) (c - zero_digit) (10 + (c - first_letter))

-- the bytes that characters make, two for each; one that is left over makes none
unfoldable pub bytes_of : List ℕ → List ℕ
bytes_of [] = []
bytes_of (c ∷ []) = []
bytes_of (high ∷ low ∷ characters) = (16 * half_of high + half_of low) ∷ bytes_of characters
