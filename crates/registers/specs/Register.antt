-- Registers hold 16-bit two's complement, and are sent high byte first.
use Rattle.std.specs.Prelude.{ℕ, zero, suc, ◌-◌, ◌+◌, ◌*◌, ◌/◌, ◌%◌, cond, List, [], ◌∷◌, ◌++◌, ltb, ℤ, pos, negsuc, Option, Some, None}
use Rattle.items.specs.ItemList.{found_by_register}
use Rattle.table.specs.Table.{answered}

-- n stands as n, and -(n + 1) as FFFFH - n; of a number that needs more than 16 bits the low 16 stand
abbrev pub to_register : ℤ → ℕ
to_register (pos n) = n % 0x10000
to_register (negsuc n) = 0xFFFF - n % 0x10000

-- the number that a register holds: from 8000H up it is below zero
abbrev pub of_register : ℕ → ℤ
of_register w = cond (ltb w 0x8000) (pos w) (negsuc (0xFFFF - w))

-- the two bytes of a register in the order in which they are sent
abbrev pub high_first : ℕ → List ℕ
high_first w = w / 256 ∷ w % 256 ∷ []

-- the register that two bytes make, the high one first
abbrev pub word : ℕ → ℕ → ℕ
word high low = high * 256 + low

-- what a register of the map reads: the answer for the item that has it, 0 where it is unlisted
abbrev pub read_as : List ℤ → Option ℕ → ℕ
read_as t (Some i) = to_register (answered t i)
read_as t None = 0

unfoldable pub register_at : List ℤ → ℕ → ℕ
register_at t r = read_as t (found_by_register r)

-- n registers from r on, as they are sent
abbrev pub registers_from : List ℤ → ℕ → ℕ → List ℕ
registers_from t r zero = []
registers_from t r (suc n) = high_first (register_at t r) ++ registers_from t (suc r) n
