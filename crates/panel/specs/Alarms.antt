-- What a lamp routine sees that looks at entries 2 and 3 of the table and asks nobody: after any call on a good table AA is 1 exactly when
-- M1 is at least A1, and AB exactly when M1 is at least A2. Each C function that is lent a table promises to leave what is named here; the
-- others are lent none.
use Rattle.std.specs.Prelude.{ℕ, ◌≡◌, true, List, ℤ, length}
use Rattle.items.specs.ItemList.{items}
use Rattle.table.specs.Table.{good_table, start_table, put_table, AlarmsTrue}
use Rattle.rkc.specs.Outcome.{ByteCall, received}
use Rattle.call.specs.Call.{Call}
use Rattle.rtu.specs.Frame as rtu
use Rattle.ascii.specs.Line as ascii
use Rattle.playback.specs.Playback.{played}

-- what the routine sees is true, and the table is good, so that it is true after the next call as well
pub record LampsTrue (t : List ℤ) : Type 0 where
  pub alarms_true : AlarmsTrue t
  pub still_good : good_table t ≡ true

pub record OfLamps : Type 0 where
  -- the lines: a byte, a frame, a line of ASCII
  pub after_byte : (call : ByteCall) → good_table call.table ≡ true → LampsTrue (received call).table
  pub after_frame : (call : Call) (frame : List ℕ) → good_table call.table ≡ true → LampsTrue (rtu.acted_on call frame).table
  pub after_line : (call : Call) (line : List ℕ) → good_table call.table ≡ true → LampsTrue (ascii.acted_on call line).table
  -- playback, and the firmware's put, each refused or not
  pub after_playback : (t : List ℤ) (address : ℕ) (c : List ℕ) → good_table t ≡ true → LampsTrue (played t address c)
  pub after_put : (t : List ℤ) (n : ℕ) (v : ℤ) → good_table t ≡ true → LampsTrue (put_table t n v)
  -- and the start, whatever stood in the table before
  pub after_start : (t : List ℤ) → length t ≡ items → LampsTrue (start_table t)
