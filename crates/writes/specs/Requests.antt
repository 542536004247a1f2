-- The two requests to write: what they ask for, their faults, and the table that they leave.
use Rattle.std.specs.Prelude.{ℕ, List, ℤ, drop}
use Rattle.registers.specs.Faults.{right_length, first_word, data_place, right_counts}
use Rattle.writes.specs.Writes.{Write, writes, request_fault, stored_unless}

-- the registers from the first word on take what stands in the body from a place on
abbrev pub writes_from : ℕ → List ℕ → List Write
writes_from place body = writes (first_word body) (drop place body)

-- ---- 06H: a register and a value

-- the value stands behind the register
abbrev pub value_place : ℕ
value_place = 4

-- the form of a request is its length
unfoldable pub write_fault : List ℕ → ℕ
write_fault body = request_fault (right_length body) (writes_from value_place body)

abbrev pub written_by_one : List ℤ → List ℕ → List ℤ
written_by_one t body = stored_unless (write_fault body) t (writes_from value_place body)

-- ---- 10H: a register to start from, a quantity, a byte count, and the values of the registers

-- the form of a request is that its length, quantity and byte count agree
unfoldable pub several_fault : List ℕ → ℕ
several_fault body = request_fault (right_counts body) (writes_from data_place body)

abbrev pub written_by_several : List ℤ → List ℕ → List ℤ
written_by_several t body = stored_unless (several_fault body) t (writes_from data_place body)
