-- The decimal point chosen on site, as the Modbus lines have it: XU is a register like any other there, and moves no other. The claims are
-- of the rules for a message, so they hold on every line that hands its messages to them, and of the frames of a capture. What XU does on
-- the RKC line is claimed in `demands`.
use Rattle.std.specs.Prelude.{ℕ, ◌≡◌, ◌≢◌, true, List, ℤ, length}
use Rattle.items.specs.ItemList.{item_at}
use Rattle.table.specs.Table.{XU, good_table, SameButXU}
use Rattle.registers.specs.Register.{register_at}
use Rattle.registers.specs.Faults.{first_word, second_word}
use Rattle.writes.specs.Writes.{Outside}
use Rattle.modbus.specs.Outcome.{Outcome, function_of}
use Rattle.modbus.specs.Rules.{read_registers, acted}
use Rattle.settings.specs.Settings.{writes_of}

-- the register of XU, 0013H
abbrev pub xu_register : ℕ
xu_register = (item_at XU).register

-- two outcomes have the same number and the same reply
pub record SameAnswer (o p : Outcome) : Type 0 where
  pub number : o.number ≡ p.number
  pub reply : o.reply ≡ p.reply

-- what is claimed of every message, for a device with this address
pub record OfXU (table : List ℤ) (address : ℕ) (body : List ℕ) : Type 0 where
  -- one that asks to write XU's register alone, accepted or not, changes no other entry of a good table, and so no lamp
  pub changes_alone : good_table table ≡ true → first_word body ≡ xu_register → length (writes_of body) ≡ 1
      → SameButXU table (acted table address body).table
  -- XU makes no difference to what any other register reads, and none to the number and the reply of any message but a read that has
  -- XU's register in its span
  pub registers_stay : (other : List ℤ) → SameButXU table other → (register : ℕ) → register ≢ xu_register
      → register_at other register ≡ register_at table register
  pub answers_stay : (other : List ℤ) → SameButXU table other
      → (function_of body ≡ read_registers → Outside (first_word body) (second_word body) xu_register)
      → SameAnswer (acted other address body) (acted table address body)
