-- What is claimed of a frame, and of playback beside its promise.
use Rattle.std.specs.Prelude.{ℕ, ◌≤◌, ◌<◌, ◌≡◌, ◌≢◌, true, false, List, eqb, ℤ, length}
use Rattle.numbers.specs.Numbers.{none, least_buffer}
use Rattle.items.specs.ItemList.{items, item_at}
use Rattle.table.specs.Table.{entry, is_alarm_state, good_table, start_values, AlarmsTrue}
use Rattle.crc.specs.Crc.{body_of}
use Rattle.writes.specs.Writes.{over}
use Rattle.settings.specs.Settings.{ToWrite}
use Rattle.call.specs.Call.{Call, call_fault}
use Rattle.rtu.specs.Frame.{acted_on}
use Rattle.capture.specs.Format.{frames}
use Rattle.playback.specs.Playback.{handed_over, play_number, played}
use Rattle.playback.specs.Written.{accepts_frame, wrote}

-- of a frame that is handed over: what it is to be accepted, and to write
pub record OfFrame (call : Call) (frame : List ℕ) : Type 0 where
  -- only a message of 06H or 10H is accepted as a write, and such a one exactly when it is given no number
  pub only_writes : accepts_frame call.address frame ≡ true → ToWrite (body_of frame)
  pub by_number : call_fault call ≡ none → ToWrite (body_of frame) → accepts_frame call.address frame ≡ eqb (acted_on call frame).number none
  -- each entry but the alarm states becomes what the frame writes to its item, and stays where it writes nothing
  pub entry_written : call_fault call ≡ none → (i : ℕ) → is_alarm_state i ≡ false → i < items
      → entry (acted_on call frame).table i ≡ over (entry call.table i) (wrote call.address frame i)

pub record OfPlayback (t : List ℤ) (address : ℕ) (c : List ℕ) : Type 0 where
  -- a number leaves the table as it came
  pub refusal_leaves : play_number t address c ≢ none → played t address c ≡ t
  -- with none it is what a device ends with that begins at the start values and has any buffer with room for its replies
  pub any_buffer : play_number t address c ≡ none → (buffer : List ℕ) → least_buffer ≤ length buffer
      → played t address c ≡ (handed_over (record { table = start_values; buffer = buffer; address = address }) (frames c)).table
  -- whatever was lent, it is then a good table, with true alarm states, and with the start values of the other read-only items
  pub good : play_number t address c ≡ none → good_table (played t address c) ≡ true
  pub alarms_true : play_number t address c ≡ none → AlarmsTrue (played t address c)
  pub read_only_at_start : play_number t address c ≡ none → (i : ℕ) → (item_at i).writable ≡ false → is_alarm_state i ≡ false
      → entry (played t address c) i ≡ entry start_values i
