-- A capture played back: its frames handed over one at a time, from the start table on.
use Rattle.std.specs.Prelude.{ℕ, List, [], ◌∷◌, eqb, ℤ, length, replicate}
use Rattle.std.proofs.lemmas.List.Edits.{sets}
use Rattle.numbers.specs.Numbers.{unless, first_met, unless_met, least_buffer, bad_setting}
use Rattle.items.specs.ItemList.{items}
use Rattle.table.specs.Table.{wrong_length, start_values}
use Rattle.call.specs.Call.{Call, is_address}
use Rattle.rtu.specs.Frame.{acted_on}
use Rattle.capture.specs.Format.{capture_fault, frames}

-- what the next frame is handed to: the table and the buffer as a frame left them
unfoldable pub after : Call → List ℕ → Call
after call frame =
    record {
      table = (acted_on call frame).table;
      buffer = sets call.buffer 0 (acted_on call frame).reply;
      address = call.address;
    }

-- frames handed over one at a time
abbrev pub handed_over : Call → List (List ℕ) → Call
handed_over call [] = call
handed_over call (f ∷ fs) = handed_over (after call f) fs

-- the start: the start values and a reply buffer, at an address. Playback has no buffer, and what this one holds makes no difference.
unfoldable pub at_start : ℕ → Call
at_start address = record { table = start_values; buffer = replicate least_buffer 0; address = address }

-- the table that is lent must have an entry for each item; what they hold is not looked at. Then the address, then the capture.
unfoldable pub play_number : List ℤ → ℕ → List ℕ → ℕ
play_number t address c =
    first_met
    (unless (eqb (length t) items) wrong_length
    ∷ unless (is_address address) bad_setting
    ∷ capture_fault c
    ∷ [])

-- the table afterwards: as it came where a number is met, else what the frames leave
unfoldable pub played : List ℤ → ℕ → List ℕ → List ℤ
played t address c = unless_met (play_number t address c) (λ number. t) (handed_over (at_start address) (frames c)).table
