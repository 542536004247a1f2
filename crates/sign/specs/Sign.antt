-- A whole number by its sign and its size, and when two are the same.
use Rattle.std.specs.Prelude.{ℕ, ◌^◌, Bool, true, false, cond, eqb, ltb, ℤ, pos, negsuc, neg_ℤ}

-- minus n: n below zero, and 0 for n = 0
abbrev pub minus : ℕ → ℤ
minus n = neg_ℤ (pos n)

-- the sign applies to the whole size; minus zero is 0
abbrev pub signed : Bool → ℕ → ℤ
signed true n = minus n
signed false n = pos n

-- the same where the size is below 2^31, else 0
abbrev pub made : Bool → ℕ → ℤ
made below n = cond (ltb n (2 ^ 31)) (signed below n) (pos 0)

-- two numbers are the same
abbrev pub eq_z : ℤ → ℤ → Bool
eq_z (pos m) (pos n) = eqb m n
eq_z (pos m) (negsuc n) = false
eq_z (negsuc m) (pos n) = false
eq_z (negsuc m) (negsuc n) = eqb m n
