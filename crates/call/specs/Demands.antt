-- Demand 1 on both Modbus lines: a claim about every call that is handed a frame or a line.
use Rattle.std.specs.Prelude.{◌≡◌, ◌≢◌, ◌⊎◌, true, false, List, ℕ, ◌<◌, ℤ}
use Rattle.numbers.specs.Numbers.{none}
use Rattle.items.specs.ItemList.{items, item_at, in_range}
use Rattle.table.specs.Table.{entry, is_alarm_state, good_table, AlarmsTrue}
use Rattle.modbus.specs.declared.Answered.{Answered}
use Rattle.modbus.specs.Outcome.{unknown_function}
use Rattle.call.specs.Call.{Call, call_fault}
use Rattle.call.specs.Promise.{Untouched}

-- what is claimed of one call, whatever was handed in
pub record OfCall (call : Call) (r : Answered) (after : List ℕ) (left : List ℤ) : Type 0 where
  -- the caller's fault gives its number and no reply, and leaves buffer and table
  pub fault_leaves_all : call_fault call ≢ none → Untouched (call_fault call) call r after left
  -- so does every number below the exceptions: 1 to 4 and 21 to 25
  pub refusal_leaves_all : 0 < r.number → r.number < unknown_function → Untouched r.number call r after left
  -- an exception leaves the table too
  pub number_leaves_table : 0 < r.number → left ≡ call.table
  -- whatever the table, each entry stays as it was or is in its range, and that of a read-only item stays as it was, the alarm states
  -- apart
  pub stays_or_in_range : (j : ℕ) → (entry left j ≡ entry call.table j) ⊎ (in_range j (entry left j) ≡ true)
  pub read_only_stays : (j : ℕ) → (item_at j).writable ≡ false → is_alarm_state j ≡ false → entry left j ≡ entry call.table j
  -- a good table stays good, so each entry stays in its range, and the alarm states, which change only to stay true, are true
  pub good_stays_good : good_table call.table ≡ true → good_table left ≡ true
  pub in_range_stays : good_table call.table ≡ true → (j : ℕ) → j < items → in_range j (entry left j) ≡ true
  pub alarms_stay_true : good_table call.table ≡ true → AlarmsTrue left
