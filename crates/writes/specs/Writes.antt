-- What a request to write asks for, as a list of writes: whether it is allowed, and what it leaves of the table.
use Rattle.std.specs.Prelude.{ℕ, suc, ◌+◌, ◌≤◌, ◌<◌, ◌⊎◌, Bool, true, false, cond, ◌&&◌, List, [], ◌∷◌, eqb, ℤ, Option, Some, None}
use Rattle.numbers.specs.Numbers.{unless, first_met, unless_met}
use Rattle.items.specs.ItemList.{item_at, in_range, place_of}
use Rattle.table.specs.Table.{stored}
use Rattle.registers.specs.Register.{of_register, word}
use Rattle.registers.specs.Faults.{wrong_register, wrong_data}

-- a write: the place of an item, past the list where a register is no item's, and the value that it takes
pub record Write : Type 0 where
  pub place : ℕ
  pub value : ℤ

-- the writes that bytes of data ask for: two, the high one first, for each register from this one on
abbrev pub writes : ℕ → List ℕ → List Write
writes register [] = []
writes register (high ∷ []) = []
writes register (high ∷ low ∷ bytes) =
    record { place = place_of register; value = of_register (word high low) } ∷ writes (suc register) bytes

-- a register outside a span of so many from a start on
abbrev pub Outside : ℕ → ℕ → ℕ → Type 0
Outside start quantity register = (register < start) ⊎ (start + quantity ≤ register)

-- ---- allowed or not

-- the register is that of a writable item
abbrev pub writable : Write → Bool
writable w = (item_at w.place).writable

-- the value is in the range of its item
abbrev pub inside : Write → Bool
inside w = in_range w.place w.value

abbrev pub allowed : Write → Bool
allowed w = writable w && inside w

-- a test holds of each write
abbrev pub each : (Write → Bool) → List Write → Bool
each test [] = true
each test (w ∷ ws) = test w && each test ws

-- a request whose form is right or not: a wrong form, then any register that is not writable, then any value out of range
unfoldable pub request_fault : Bool → List Write → ℕ
request_fault right ws =
    first_met
    (unless right wrong_data
    ∷ unless (each writable ws) wrong_register
    ∷ unless (each inside ws) wrong_data
    ∷ [])

-- ---- the table afterwards

-- each value stored, one after the other
abbrev pub stored_all : List ℤ → List Write → List ℤ
stored_all t [] = t
stored_all t (w ∷ ws) = stored_all (stored t w.place w.value) ws

-- either all are stored or none: where a fault is met the table stays
unfoldable pub stored_unless : ℕ → List ℤ → List Write → List ℤ
stored_unless fault t ws = unless_met fault (λ number. t) (stored_all t ws)

-- ---- what an item is given: a value, or nothing

-- a value is given, and not nothing
abbrev pub is_value : Option ℤ → Bool
is_value (Some v) = true
is_value None = false

-- what is given later, and where that is nothing what was given before
abbrev pub later : Option ℤ → Option ℤ → Option ℤ
later (Some v) before = Some v
later None before = before

-- what writes give the item at a place
abbrev pub given : List Write → ℕ → Option ℤ
given [] i = None
given (w ∷ ws) i = later (given ws i) (cond (eqb w.place i) (Some w.value) None)

-- what an entry becomes by what it is given
abbrev pub over : ℤ → Option ℤ → ℤ
over v (Some new) = new
over v None = v
