-- The numbers that a reading or a writing gives back, the widths that a number can have, and the most decimals. What a reading is that gives
-- one of them stands in numbers: `number_given`, and `value_of` here.
use Rattle.std.specs.Prelude.{ℕ, ◌+◌, Result, ℤ, pos}
use Rattle.numbers.specs.declared.Refusal.{Refusal}
use Rattle.numbers.specs.Refusals.{value_or}

-- How many characters a number has on the RKC line: as many when it is written, at most as many when it is read. So many digits, times
-- ten to the most decimals, are within 32 bits.
abbrev pub width : ℕ
width = 6

abbrev pub most_decimals : ℕ
most_decimals = 3

-- a minus, a digit, the point and the most decimals have room
abbrev pub least_width : ℕ
least_width = 3 + most_decimals

abbrev pub does_not_fit : ℕ
does_not_fit = 8

abbrev pub too_many_decimals : ℕ
too_many_decimals = 9

abbrev pub over_six_characters : ℕ
over_six_characters = 15

abbrev pub no_number : ℕ
no_number = 16

-- the value read, 0 where it was refused
abbrev pub value_of : Result ℤ Refusal → ℤ
value_of = value_or (pos 0)
