-- What the four bytes of a float say, and that they say the nearest number there is to a quotient. Nothing here rests on an account of
-- arithmetic with floats: all numbers are whole, and counted in the smallest single-precision number above zero, 2^-149.
use Rattle.std.specs.Prelude.{ℕ, zero, suc, ◌+◌, ◌-◌, ◌*◌, ◌/◌, ◌%◌, ◌^◌, ◌≤◌, ◌≡◌, ◌≢◌, Bool, true, cond, ◌&&◌, leb, ltb, ℤ, pos, nat_abs}
use Rattle.std.specs.Bool.{beq}
use Rattle.std.specs.Int.Signed.{lt_z}

-- ---- the four bytes as one number: a bit for the sign, eight for the exponent, 23 for the fraction

abbrev pub is_minus : ℕ → Bool
is_minus b = leb (2 ^ 31) b

abbrev pub exponent : ℕ → ℕ
exponent b = b / 2 ^ 23 % 2 ^ 8

abbrev pub fraction : ℕ → ℕ
fraction b = b % 2 ^ 23

-- where all bits of the exponent are set they say no number, but an infinity or what is none
abbrev pub is_number : ℕ → Bool
is_number b = ltb b (2 ^ 32) && ltb (exponent b) 255

-- the size without the sign: the fraction, with a 1 in front of it and doubled for each exponent above 1, but for exponent 0 as it stands
abbrev pub size_by : ℕ → ℕ → ℕ
size_by zero t = t
size_by (suc x) t = (2 ^ 23 + t) * 2 ^ x

abbrev pub size_of : ℕ → ℕ
size_of b = size_by (exponent b) (fraction b)

-- ---- how far a float is from a quotient

-- how far apart two numbers are, each by its sign and its size: the difference of their sizes, or their sum where the signs differ
abbrev pub apart : Bool → ℕ → Bool → ℕ → ℕ
apart s m t n = cond (beq s t) ((m - n) + (n - m)) (m + n)

-- how far the float is from v / 10 ^ d, times 10 ^ d
abbrev pub away : ℤ → ℕ → ℕ → ℕ
away v d b = apart (is_minus b) (size_of b * 10 ^ d) (lt_z v (pos 0)) (nat_abs v * 2 ^ 149)

-- the float is a number, no other lies nearer, and of two that are equally near it is the even one
pub record Nearest (v : ℤ) (d b : ℕ) : Type 0 where
  pub number : is_number b ≡ true
  pub nearest : (other : ℕ) → is_number other ≡ true → away v d b ≤ away v d other
  pub even : (other : ℕ) → is_number other ≡ true → other ≢ b → away v d other ≡ away v d b → b % 2 ≡ 0
