-- What an instrument of the examples is after what its firmware has put and what a host has sent, and what its last step came to.
use Rattle.std.specs.Prelude.{ℕ, ◌+◌, ◌≡◌, List, [], ◌∷◌, length, replicate, ℤ, bit_xor}
use Rattle.numbers.specs.Numbers.{least_buffer}
use Rattle.items.specs.ItemList.{item_at, identifier_of}
use Rattle.table.specs.Table.{start_values, put_table}
use Rattle.line.specs.Line.{STX, ETX, EOT, bcc}
use Rattle.phases.specs.Phases.{rest}
use Rattle.rkc.specs.declared.Stepped.{Stepped}
use Rattle.rkc.specs.State.{in_phase}
use Rattle.rkc.specs.Outcome.{Outcome, ByteCall, silent, received}
use Rattle.instrument.specs.declared.Instrument.{Instrument}

-- at rest, with start values
abbrev pub at_start : Instrument
at_start = record { table = start_values; link = in_phase rest }

-- with a value that is put to the item at a place
abbrev pub with_value : Instrument → ℕ → ℤ → Instrument
with_value i place value = record { table = put_table i.table (place + 1) value; link = i.link }

-- a byte comes at address 1, in structure 0, at time 0
abbrev pub call_of : Instrument → List ℕ → ℕ → ByteCall
call_of i buffer byte =
    record { link = i.link; table = i.table; buffer = buffer; address = 1; structure = 0; time = 0; byte = byte }

-- the instrument that a step leaves
abbrev pub left_by : Outcome → Instrument
left_by o = record { table = o.table; link = o.step.link }

-- no byte has come
abbrev pub untold : Instrument → Outcome
untold i = record { step = silent i.link; table = i.table }

-- the reply buffer that each byte is lent
abbrev pub lent : List ℕ
lent = replicate least_buffer 0

-- bytes come one after another
unfoldable pub heard : Outcome → List ℕ → Outcome
heard o [] = o
heard o (byte ∷ bytes) = heard (received (call_of (left_by o) lent byte)) bytes

-- what the last of them comes to, in an instrument
abbrev pub told : Instrument → List ℕ → Outcome
told i bytes = heard (untold i) bytes

-- the identifier of the item at a place
abbrev pub name : ℕ → List ℕ
name place = identifier_of (item_at place)

-- an instrument in which a block to an item is opened, up to its text
abbrev pub opened : Instrument → ℕ → Instrument
opened i place = left_by (told (left_by (told i (EOT ∷ 0x30 ∷ 0x31 ∷ STX ∷ []))) (name place))

-- a block brings the item a text, and ends with ETX and the BCC of all from the identifier on
unfoldable pub brought : Instrument → ℕ → List ℕ → Outcome
brought i place text =
    told (left_by (told (opened i place) text)) (ETX ∷ bit_xor (bit_xor (bcc (name place)) (bcc text)) ETX ∷ [])

-- what a step hands back, and the instrument that it leaves
pub record Hears (o : Outcome) (r : Stepped) (after : Instrument) : Type 0 where
  pub back : r ≡ record { link = o.step.link; number = o.step.number; len = length o.step.reply }
  pub left : after ≡ left_by o
