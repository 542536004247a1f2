-- The promise of the call that is handed a frame.
use Rattle.std.specs.Prelude.{ℕ, ◌≡◌, List, ℤ}
use Rattle.numbers.specs.Numbers.{none}
use Rattle.crc.specs.Damage.{Spoils, flip}
use Rattle.modbus.specs.declared.Answered.{Answered}
use Rattle.modbus.specs.Promise.{Gives}
use Rattle.call.specs.Call.{Call, call_fault}
use Rattle.call.specs.Promise.{Untouched}
use Rattle.rtu.specs.Frame.{wrong_crc, acted_on}

-- A call that is handed a frame gives the outcome of that frame. So where the caller made no fault and the frame is a right
-- one of 4 to 256 bytes that the line has spoiled, by flips within 16 consecutive bits as sent or by an odd number of flips,
-- it gives number 22, sends nothing, and leaves buffer and table.
pub record Acts (call : Call) (frame : List ℕ) (r : Answered) (after : List ℕ) (left : List ℤ) : Type 0 where
  pub outcome : Gives (acted_on call frame) r call.buffer after left
  pub damage : (f m : List ℕ) → call_fault call ≡ none → Spoils f m → frame ≡ flip f m → Untouched wrong_crc call r after left
