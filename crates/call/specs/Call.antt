-- A call of either Modbus line, which hands in a message body in the form of that line: an RTU frame, or an ASCII line.
use Rattle.std.specs.Prelude.{ℕ, Bool, ◌&&◌, List, [], ◌∷◌, leb, ℤ, length}
use Rattle.numbers.specs.Numbers.{unless, first_met, unless_met, short_buffer, least_buffer, bad_setting, last_address}
use Rattle.table.specs.Table.{table_fault}
use Rattle.modbus.specs.Outcome.{Outcome, silent}
use Rattle.modbus.specs.Rules.{acted}

-- the addresses that a device can have
abbrev pub first_address : ℕ
first_address = 1

abbrev pub is_address : ℕ → Bool
is_address address = leb first_address address && leb address last_address

-- what the caller hands in beside a frame or a line: the table and the reply buffer that it lends, and the address of the device
pub record Call : Type 0 where
  pub table : List ℤ
  pub buffer : List ℕ
  pub address : ℕ

-- The caller's fault: the table's, then a short buffer, then an address that no device has.
unfoldable pub call_fault : Call → ℕ
call_fault call =
    first_met
    (table_fault call.table
    ∷ unless (leb least_buffer (length call.buffer)) short_buffer
    ∷ unless (is_address call.address) bad_setting
    ∷ [])

-- it goes before the fault of what the line brought
unfoldable pub refusal : Call → ℕ → ℕ
refusal call fault = first_met (call_fault call ∷ fault ∷ [])

-- a reply's body is sent in the form of its line; silence stays silence
abbrev pub sent_as : (List ℕ → List ℕ) → List ℕ → List ℕ
sent_as form [] = []
sent_as form (b ∷ reply) = form (b ∷ reply)

abbrev pub sending : (List ℕ → List ℕ) → Outcome → Outcome
sending form outcome =
    record { number = outcome.number; reply = sent_as form outcome.reply; table = outcome.table }

-- What comes of a call: a refusal is silent and leaves the table; else the rules for a message act on the body, and their reply is
-- sent in the form of the line.
unfoldable pub answered_as : (List ℕ → List ℕ) → Call → ℕ → List ℕ → Outcome
answered_as form call fault body =
    unless_met (refusal call fault) (silent call.table) (sending form (acted call.table call.address body))
