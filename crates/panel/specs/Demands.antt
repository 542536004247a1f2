-- Demand 1 for the C functions of the RKC line: claims about every call, over the bytes that firmware lends. That of the RTU line
-- is the library's own (rtu), since `vb_rtu` keeps its promise as it stands.
use Rattle.std.specs.Prelude.{◌≡◌, ◌≢◌, ◌⊎◌, true, false, List, ℕ, ◌%◌, ℤ}
use Rattle.numbers.specs.Numbers.{none}
use Rattle.items.specs.ItemList.{item_at, in_range}
use Rattle.table.specs.Table.{entry, is_alarm_state, good_table, AlarmsTrue}
use Rattle.rkc.specs.Outcome.{ByteCall, byte_fault, received, IdleCall, idle_fault, idled}
use Rattle.demands.specs.Numbers.{one_of, byte_faults, byte_numbers, idle_faults, idle_numbers}
use Rattle.state.specs.State.{unpacked}

-- the number in a result
abbrev pub number_in : ℕ → ℕ
number_in r = r % 256

-- what is claimed of `vb_byte`: the bytes of the state as they came and as they are held afterwards, the buffer and the table as
-- they are left
pub record OfVbByte (state : List ℕ) (call : ByteCall) (r : ℕ) (held after : List ℕ) (left : List ℤ) : Type 0 where
  -- the caller's fault is the result, and state, buffer and table are as they came
  pub fault_leaves_all : byte_fault call ≢ none → (r ≡ byte_fault call) × (held ≡ state) × (after ≡ call.buffer) × (left ≡ call.table)
  -- the numbers are those of the header: 1 to 5 for a fault, else 0, 11 to 18, 41, 42, 43 or 45
  pub fault_numbers : byte_fault call ≢ none → one_of byte_faults (number_in r) ≡ true
  pub other_numbers : byte_fault call ≡ none → one_of byte_numbers (number_in r) ≡ true
  -- without a fault the next call finds in the bytes the very state that this one came to
  pub next_reads : byte_fault call ≡ none → unpacked held ≡ (received call).step.link
  -- whatever the table, each entry stays as it was or is in its range, and that of a read-only item stays as it was, the alarm states
  -- apart
  pub stays_or_in_range : (j : ℕ) → (entry left j ≡ entry call.table j) ⊎ (in_range j (entry left j) ≡ true)
  pub read_only_stays : (j : ℕ) → (item_at j).writable ≡ false → is_alarm_state j ≡ false → entry left j ≡ entry call.table j
  -- a good table stays good, and the alarm states, which change only to stay true, are true
  pub good_stays_good : good_table call.table ≡ true → good_table left ≡ true
  pub alarms_stay_true : good_table call.table ≡ true → AlarmsTrue left

-- what is claimed of `vb_idle`, which has no table: its numbers are 3, 4 and 5 for a fault, else 0 or 44
pub record OfVbIdle (state : List ℕ) (call : IdleCall) (r : ℕ) (held after : List ℕ) : Type 0 where
  pub fault_leaves_all : idle_fault call ≢ none → (r ≡ idle_fault call) × (held ≡ state) × (after ≡ call.buffer)
  pub fault_numbers : idle_fault call ≢ none → one_of idle_faults (number_in r) ≡ true
  pub other_numbers : idle_fault call ≡ none → one_of idle_numbers (number_in r) ≡ true
  pub next_reads : idle_fault call ≡ none → unpacked held ≡ (idled call).link
