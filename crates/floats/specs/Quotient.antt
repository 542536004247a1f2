-- A reading as a float, in the language's account of IEEE 754. What that comes to, said without the account, is in Nearest.antt.
use Rattle.std.specs.Prelude.{ℕ, ◌/◌, ◌%◌, ◌^◌, ◌≡◌, Bool, cond, ◌&&◌, leb, Float, ℤ, pos, nat_abs}
use Rattle.std.specs.Float.{binary32}
use Rattle.std.specs.Float.Ieee.{of_int, div, to_bits}
use Rattle.sign.specs.Sign.{minus}

-- the most decimals
abbrev pub most_decimals : ℕ
most_decimals = 3

-- Whole number and power of ten are exact beforehand: single precision has every whole number up to 2^24, above zero and below.
abbrev pub exact : ℤ → ℕ → Bool
exact v d = leb (nat_abs v) (2 ^ 24) && leb d most_decimals

-- the single-precision quotient of a whole number by ten to its decimals: one division, rounded once
unfoldable pub quotient : ℤ → ℕ → Float
quotient v d = div binary32 (of_int binary32 v) (of_int binary32 (pos (10 ^ d)))

-- its four bytes, as one number; 0 where number or power is not exact, which none is in a good table
unfoldable pub float_bits : ℤ → ℕ → ℕ
float_bits v d = cond (exact v d) (to_bits binary32 (quotient v d)) 0

-- the two words of four bytes
abbrev pub high_word : ℕ → ℕ
high_word b = b / 0x10000

abbrev pub low_word : ℕ → ℕ
low_word b = b % 0x10000

-- worked out; zero is plus zero at any decimals
pub record Examples : Type 0 where
  pub measured : float_bits (pos 1005) 1 ≡ 0x42C90000
  pub tenth : float_bits (pos 1) 1 ≡ 0x3DCCCCCD
  pub lowest : float_bits (minus 1999) 3 ≡ 0xBFFFDF3B
  pub offset : float_bits (minus 150) 2 ≡ 0xBFC00000
  pub plus_zero : (d : ℕ) → float_bits (pos 0) d ≡ 0
