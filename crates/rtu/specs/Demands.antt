-- Demand 3, a claim about what comes of a frame that the line has damaged. Demand 1 is claimed of both Modbus lines in `call`.
use Rattle.std.specs.Prelude.{◌≡◌, List, ℕ}
use Rattle.numbers.specs.Numbers.{none}
use Rattle.crc.specs.Damage.{Spoils, flip}
use Rattle.modbus.specs.Outcome.{silent}
use Rattle.call.specs.Call.{Call, call_fault}
use Rattle.rtu.specs.Frame.{wrong_crc, acted_on}

-- Where the caller made no fault, and a right frame f of 4 to 256 bytes was spoiled by flips m within 16 consecutive bits as sent,
-- or by an odd number of flips, what arrives gives number 22, no reply, and the table as it came.
pub record OfDamage : Type 0 where
  pub refused : (call : Call) (f m : List ℕ) → call_fault call ≡ none → Spoils f m
      → acted_on call (flip f m) ≡ silent call.table wrong_crc
