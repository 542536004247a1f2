-- What the characters of a number say, where numbers have at most `width` characters: an optional minus first, then digits with
-- at most one point, at least one digit, nothing else.
use Rattle.std.specs.Prelude.{ℕ, zero, suc, ◌+◌, ◌-◌, ◌*◌, ◌/◌, ◌^◌, ◌≡◌, Bool, true, false, cond, ◌&&◌, List, [], ◌∷◌, ◌++◌, leb, eqb, ℤ, pos, length, take, drop, Option, Some, None, Result, Ok, Err}
use Rattle.numbers.specs.declared.Refusal.{Refusal}
use Rattle.numbers.specs.declared.Refusal.TheVariants.{NoNumber}
use Rattle.numbers.specs.Numbers.{unless, first_met, unless_met}
use Rattle.numbers.specs.Refusals.{number_given}
use Rattle.sign.specs.Sign.{signed}
use Rattle.text.specs.Characters.{minus_sign, point, zero_digit, is_digit}
use Rattle.text.specs.Numbers.{most_decimals, too_many_decimals, over_six_characters, value_of}

abbrev pub all_digits : List ℕ → Bool
all_digits [] = true
all_digits (c ∷ cs) = is_digit c && all_digits cs

-- the number that digits write when they go on after the digits of n
abbrev pub number_from : ℕ → List ℕ → ℕ
number_from n [] = n
number_from n (c ∷ cs) = number_from (n * 10 + (c - zero_digit)) cs

-- the same where all of them are digits
abbrev pub digits_from : ℕ → List ℕ → Option ℕ
digits_from n cs = cond (all_digits cs) (Some (number_from n cs)) None

-- how many characters stand before the first point, or in all where there is none
abbrev pub point_at : List ℕ → ℕ
point_at [] = zero
point_at (c ∷ cs) = cond (eqb c point) zero (suc (point_at cs))

-- Digits before and after the point, at least one in all. All of them as one number, over 10 for each that stands after the
-- point, is the written number; that times 10 ^ d is cut off by one quotient. The sign applies to the quotient, so the cut is
-- toward zero, and minus zero is 0.
abbrev pub of_parts : Bool → ℕ → List ℕ → List ℕ → Result ℤ Refusal
of_parts minus d whole fraction =
    cond (all_digits (whole ++ fraction) && leb 1 (length (whole ++ fraction)))
    (Ok (signed minus (number_from 0 (whole ++ fraction) * 10 ^ d / 10 ^ length fraction)))
    (Err NoNumber)

-- what stands after the sign: a second point would be no digit
abbrev pub of_unsigned : Bool → ℕ → List ℕ → Result ℤ Refusal
of_unsigned minus d cs = of_parts minus d (take (point_at cs) cs) (drop (suc (point_at cs)) cs)

-- an optional minus first
abbrev pub of_text : ℕ → List ℕ → Result ℤ Refusal
of_text d [] = Err NoNumber
of_text d (c ∷ cs) = cond (eqb c minus_sign) (of_unsigned true d cs) (of_unsigned false d (c ∷ cs))

-- the number given back: too many decimals, then too many characters, then text that is no number
unfoldable pub read_number : ℕ → ℕ → List ℕ → ℕ
read_number width d cs =
    first_met
    (unless (leb d most_decimals) too_many_decimals
    ∷ unless (leb (length cs) width) over_six_characters
    ∷ number_given (of_text d cs)
    ∷ [])

-- the value that the characters write, 0 where they are refused
unfoldable pub read_value : ℕ → ℕ → List ℕ → ℤ
read_value width d cs = unless_met (read_number width d cs) (λ number. pos 0) (value_of (of_text d cs))

-- what is promised of a reading: it has this number and this value
pub record ReadAs (width d : ℕ) (cs : List ℕ) (r : Result ℤ Refusal) : Type 0 where
  pub number : number_given r ≡ read_number width d cs
  pub value : value_of r ≡ read_value width d cs
