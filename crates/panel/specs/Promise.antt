-- What the promises of the C face say of a result and of all that was lent, as it is left.
use Rattle.std.specs.Prelude.{ℕ, ◌≤◌, false, cond, ◌≡◌, List, ℤ, pos, length}
use Rattle.std.proofs.lemmas.List.Edits.{sets}
use Rattle.rkc.specs.declared.Stepped.{Stepped}
use Rattle.rkc.specs.Outcome.{Step, Outcome}
use Rattle.state.specs.State.{state_bytes}
use Rattle.writes.specs.Writes.{is_value, over}
use Rattle.last_write.specs.LastWrite.{Question, ask_number, last_written, records_read}
use Rattle.panel.specs.Calls.{result_of, is_call_fault, held_after}

-- a bound that no reply of any line is over, so that its length has room in a result
abbrev pub longest_reply : ℕ
longest_reply = 256

-- what a step may hand back to be held: a reply that is not too long, and a state for 24 bytes unless the call had a fault
pub record Holdable (r : Stepped) (state : List ℕ) : Type 0 where
  pub short : r.len ≤ longest_reply
  pub whole : is_call_fault r.number ≡ false → length state ≡ state_bytes

-- it gives back the number and the reply's length, and holds the state
pub record Held (r : Stepped) (n : ℕ) (state held : List ℕ) : Type 0 where
  pub given : n ≡ result_of r.number r.len
  pub holds : held ≡ held_after state r.number r.link

-- it gives back the number and the reply's length of this step, and leaves the state so; the reply stands at the buffer's
-- front, and the bytes past it stay
pub record StepLeft (step : Step) (r : ℕ) (state held before after : List ℕ) : Type 0 where
  pub given : r ≡ result_of step.number (length step.reply)
  pub holds : held ≡ held_after state step.number step.link
  pub sent : after ≡ sets before 0 step.reply

-- the same, and the table is left so
pub record ByteLeft (outcome : Outcome) (r : ℕ) (state held before after : List ℕ) (table : List ℤ) : Type 0 where
  pub step : StepLeft outcome.step r state held before after
  pub left : table ≡ outcome.table

-- what is told of the last write to an item: the number, and 256 more where a write was found; its value, 0 where none was; and how many
-- records were read
pub record Told (q : Question) (c : List ℕ) (r : ℕ) (value : ℤ) (records : ℕ) : Type 0 where
  pub given : r ≡ result_of (ask_number q c) (cond (is_value (last_written q c)) 1 0)
  pub written : value ≡ over (pos 0) (last_written q c)
  pub read : records ≡ records_read q c
