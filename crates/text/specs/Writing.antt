-- The characters of a value in a text `width` characters wide: a minus first if it is below zero, zeros on the left, the point
-- before the last d digits.
use Rattle.std.specs.Prelude.{ℕ, zero, suc, ◌+◌, ◌-◌, ◌/◌, ◌%◌, ◌^◌, Bool, true, false, List, [], ◌∷◌, ◌++◌, leb, ltb, ℤ, pos, nat_abs, length, take, drop, replicate, Result, Ok, Err}
use Rattle.std.specs.Int.Signed.{lt_z}
use Rattle.numbers.specs.declared.Refusal.{Refusal}
use Rattle.numbers.specs.Numbers.{none, unless, first_met, unless_met}
use Rattle.numbers.specs.Refusals.{number_of}
use Rattle.text.specs.Characters.{minus_sign, point, zero_digit}
use Rattle.text.specs.Numbers.{most_decimals, does_not_fit, too_many_decimals}

-- the last k digits of n, zeros on the left
abbrev pub digits : ℕ → ℕ → List ℕ
digits zero n = []
digits (suc k) n = digits k (n / 10) ++ ((zero_digit + n % 10) ∷ [])

-- the point before the last d digits, no point for d = 0
abbrev pub pointed : ℕ → List ℕ → List ℕ
pointed zero ds = ds
pointed (suc d) ds = take (length ds - suc d) ds ++ (point ∷ drop (length ds - suc d) ds)

abbrev pub sign_text : Bool → List ℕ
sign_text true = minus_sign ∷ []
sign_text false = []

abbrev pub points : ℕ → ℕ
points zero = 0
points (suc d) = 1

-- how many digits there is room for beside the minus and the point
abbrev pub room : ℕ → ℕ → Bool → ℕ
room width d minus = width - (length (sign_text minus) + points d)

-- the size has no more digits than there is room for; `WhatFits` in Demands.antt has document 01's figures
unfoldable pub fits : ℕ → ℕ → ℤ → Bool
fits width d v = ltb (nat_abs v) (10 ^ room width d (lt_z v (pos 0)))

-- the characters of a sign and a size
abbrev pub text_of : ℕ → ℕ → Bool → ℕ → List ℕ
text_of width d minus size = sign_text minus ++ pointed d (digits (room width d minus) size)

-- the characters of a value that fits
unfoldable pub text : ℕ → ℕ → ℤ → List ℕ
text width d v = text_of width d (lt_z v (pos 0)) (nat_abs v)

-- the number given back, and the characters
pub record Written : Type 0 where
  pub number : ℕ
  pub chars : List ℕ

-- characters, and no number
abbrev pub accepted : List ℕ → Written
accepted cs = record { number = none; chars = cs }

-- the number of a refusal, and zero bytes for characters
abbrev pub refusal : ℕ → ℕ → Written
refusal width number = record { number = number; chars = replicate width 0 }

-- the number given back: too many decimals, then a value that does not fit
unfoldable pub write_number : ℕ → ℕ → ℤ → ℕ
write_number width d v =
    first_met
    (unless (leb d most_decimals) too_many_decimals
    ∷ unless (fits width d v) does_not_fit
    ∷ [])

-- the characters of the value, or the refusal
unfoldable pub written : ℕ → ℕ → ℤ → Written
written width d v = unless_met (write_number width d v) (refusal width) (accepted (text width d v))

-- what an outcome of the code is: characters, or a refusal
abbrev pub written_as : ℕ → Result (List ℕ) Refusal → Written
written_as width (Ok cs) = accepted cs
written_as width (Err r) = refusal width (number_of r)
