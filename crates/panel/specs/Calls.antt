-- What the functions of the C face give back and leave, where that is not a definition of a crate below as it stands.
use Rattle.std.specs.Prelude.{Bool, cond, ◌&&◌, List, [], ◌∷◌, ℕ, ◌+◌, ◌*◌, ◌/◌, ◌%◌, leb, ℤ, length}
use Rattle.std.proofs.lemmas.List.Edits.{sets}
use Rattle.numbers.specs.Numbers.{unless, first_met, short_buffer}
use Rattle.table.specs.Table.{wrong_length}
use Rattle.text.specs.Numbers.{width}
use Rattle.text.specs.Writing.{written}
use Rattle.phases.specs.Phases.{rest}
use Rattle.rkc.specs.declared.Link.{Link}
use Rattle.rkc.specs.State.{in_phase}
use Rattle.rkc.specs.Outcome.{bad_state}
use Rattle.modbus.specs.declared.Answered.{Answered}
use Rattle.state.specs.State.{is_state, packed, packed_into}

-- the number and the length of the reply in one
abbrev pub result_of : ℕ → ℕ → ℕ
result_of number len = number + 256 * len

-- the two taken out of it again
abbrev pub answer_in : ℕ → Answered
answer_in r = record { number = r % 256; len = r / 256 }

-- the numbers that hand the state back as it came: 1 to 5
abbrev pub is_call_fault : ℕ → Bool
is_call_fault number = leb wrong_length number && leb number bad_state

-- the bytes of the state after a step that gave this number and handed this state back
abbrev pub held_after : List ℕ → ℕ → Link → List ℕ
held_after s number l = cond (is_call_fault number) s (packed l)

-- ---- the start of a link

abbrev pub link_start_number : List ℕ → ℕ
link_start_number s = unless (is_state s) bad_state

-- rest, all else 0
abbrev pub link_start : List ℕ → List ℕ
link_start s = packed_into s (in_phase rest)

-- ---- writing text

-- the room is looked at first
abbrev pub text_number : ℕ → ℤ → List ℕ → ℕ
text_number d v cs = first_met (unless (leb width (length cs)) short_buffer ∷ (written width d v).number ∷ [])

-- the six characters stand at the front, zeros where the value was refused; without room for them nothing is written
abbrev pub text_left : ℕ → ℤ → List ℕ → List ℕ
text_left d v cs = cond (leb width (length cs)) (sets cs 0 (written width d v).chars) cs
