-- What one received byte and one idle call lead to.
use Rattle.std.specs.Prelude.{ℕ, ◌+◌, ◌-◌, ◌%◌, ◌^◌, Bool, cond, ◌&&◌, List, [], ◌∷◌, ◌++◌, map, length, ℤ, ◌==◌, nat_le, slice_index, Option, Some, None}
use Rattle.numbers.specs.Numbers.{none, unless, first_met, unless_met, short_buffer, least_buffer, bad_setting, last_address}
use Rattle.items.specs.ItemList.{items, item_at, decimals_of, found}
use Rattle.numbers.specs.Refusals.{number_of}
use Rattle.table.specs.Table.{table_fault, answered, xu_of, stored}
use Rattle.line.specs.Line.{STX, ETX, EOT, ACK, NAK, last_structure, sent, heard, bcc}
use Rattle.text.specs.Numbers.{width}
use Rattle.text.specs.Writing.{Written}
use Rattle.text.specs.Writing.{written}
use Rattle.phases.specs.Phases as phases
use Rattle.phases.specs.Phases.{rest, waiting, unknown_polled}
use Rattle.phases.specs.Decision.{decided}
use Rattle.phases.specs.declared.Act.{Act}
use Rattle.phases.specs.declared.Act.TheVariants.{Go, First, Both, More, Ended, Quit, Poll, Send, Judge}
use Rattle.block.specs.Block.{block_item, block_value, block_number}
use Rattle.rkc.specs.declared.Link.{Link}
use Rattle.rkc.specs.State.{in_phase, holding_one, holding_two, waiting_on, used, in_limits, with_more, with_end}

-- numbers given back
abbrev pub bad_state : ℕ
bad_state = 5

abbrev pub timed_out : ℕ
timed_out = 44

abbrev pub no_room : ℕ
no_room = 46

-- the state and the number handed back, and the bytes sent
pub record Step : Type 0 where
  pub link : Link
  pub number : ℕ
  pub reply : List ℕ

-- the same with the table
pub record Outcome : Type 0 where
  pub step : Step
  pub table : List ℤ

-- the table stays
abbrev pub keeping : List ℤ → Step → Outcome
keeping t s = record { step = s; table = t }

-- nothing is sent
abbrev pub silent : Link → Step
silent l = record { link = l; number = none; reply = [] }

-- one character is sent, in the line's structure
abbrev pub sends : ℕ → ℕ → Link → ℕ → Step
sends structure c l number = record { link = l; number = number; reply = sent structure c ∷ [] }

-- EOT with a number, and rest
abbrev pub quit : ℕ → ℕ → Step
quit structure number = sends structure EOT (in_phase rest) number

-- ---- polls

-- identifier, six characters, ETX
abbrev pub message : ℕ → List ℕ → List ℕ
message i six = (item_at i).first ∷ (item_at i).second ∷ (six ++ (ETX ∷ []))

-- STX, identifier, six characters, ETX, BCC
unfoldable pub data_reply : ℕ → List ℕ → List ℕ
data_reply i six = STX ∷ (message i six ++ (bcc (message i six) ∷ []))

-- an item's number text: its value now, with the decimals that it has now
abbrev pub item_text : List ℤ → ℕ → Written
item_text t i = written width (decimals_of (xu_of t) i) (answered t i)

-- an item's number text is sent and then waited on, or EOT where its value does not fit six characters
abbrev pub with_text : ℕ → ℕ → ℕ → Written → Step
with_text structure time i w =
    unless_met w.number (λ number. quit structure no_room)
    (record { link = waiting_on (i + 1) time; number = none; reply = map (sent structure) (data_reply i w.chars) })

-- the item at a place of the list is sent
unfoldable pub item_sent : ℕ → ℕ → List ℤ → ℕ → Step
item_sent structure time t i = with_text structure time i (item_text t i)

-- what an identifier names is sent; an unknown one: EOT, rest
abbrev pub polled : ℕ → ℕ → List ℤ → Option ℕ → Step
polled structure time t (Some i) = item_sent structure time t i
polled structure time t None = quit structure unknown_polled

-- ---- blocks

-- the number that refuses a block, once a byte was heard in the BCC's place; its number text is read with the decimals that its item
-- has now
abbrev pub refusing : List ℤ → Link → ℕ → ℕ
refusing t l c = block_number (xu_of t) l.mark l.bcc l.count l.kept c

-- the answer: NAK with that number, or ACK with the item stored
abbrev pub judged : ℕ → List ℤ → Link → ℕ → Outcome
judged structure t l c =
    unless_met (refusing t l c)
    (λ number. keeping t (sends structure NAK (in_phase phases.answered) number))
    (record {
      step = sends structure ACK (in_phase phases.answered) none;
      table = stored t (block_item l.kept) (block_value (xu_of t) l.count l.kept);
    })

-- ---- an act

-- what an act does, in a state that has all at 0 that its phase doesn't use
unfoldable pub performed : Link → List ℤ → ℕ → ℕ → Act → Outcome
performed l t structure time (Go phase) = keeping t (silent (in_phase phase))
performed l t structure time (First a) = keeping t (silent (holding_one a))
performed l t structure time (Both a b) = keeping t (silent (holding_two a b))
performed l t structure time (More c) = keeping t (silent (with_more l c))
performed l t structure time Ended = keeping t (silent (with_end l))
performed l t structure time (Quit refusal) = keeping t (quit structure (number_of refusal))
performed l t structure time (Poll a b) = keeping t (polled structure time t (found a b))
performed l t structure time (Send item) = keeping t (item_sent structure time t (item - 1))
performed l t structure time (Judge c) = judged structure t l c

-- what a byte, as it was heard, asks for in a state
abbrev pub asked : Link → ℕ → ℕ → Act
asked l address c = decided items l.phase (slice_index l.kept 0) (slice_index l.kept 1) l.item address c

-- ---- what every step looks at

-- buffer, settings, state
unfoldable pub step_fault : Link → ℕ → Bool → ℕ
step_fault l room settings =
    first_met
    (unless (nat_le least_buffer room) short_buffer
    ∷ unless settings bad_setting
    ∷ unless (in_limits l) bad_state
    ∷ [])

-- the caller's fault hands the state back as it came
abbrev pub handed_back : Link → ℕ → Step
handed_back l number = record { link = l; number = number; reply = [] }

-- ---- one received byte

-- what the call is handed: the state; the table and the reply buffer as they came; the device's address, the line's structure,
-- the present time and the byte
pub record ByteCall : Type 0 where
  pub link : Link
  pub table : List ℤ
  pub buffer : List ℕ
  pub address : ℕ
  pub structure : ℕ
  pub time : ℕ
  pub byte : ℕ

-- an address up to 99, a structure up to 2
abbrev pub good_settings : ℕ → ℕ → Bool
good_settings address structure = nat_le address last_address && nat_le structure last_structure

-- the caller's fault: the table is looked at first
unfoldable pub byte_fault : ByteCall → ℕ
byte_fault call =
    first_met
    (table_fault call.table
    ∷ step_fault call.link (length call.buffer) (good_settings call.address call.structure)
    ∷ [])

-- what the byte asks for is done
abbrev pub done : ByteCall → Outcome
done call =
    performed (used call.link) call.table call.structure call.time
    (asked (used call.link) call.address (heard call.structure call.byte))

-- that is so unless the caller made a fault, which leaves all
unfoldable pub received : ByteCall → Outcome
received call = unless_met (byte_fault call) (λ number. keeping call.table (handed_back call.link number)) (done call)

-- ---- an idle call

-- it is handed no table, no address and no byte
pub record IdleCall : Type 0 where
  pub link : Link
  pub buffer : List ℕ
  pub structure : ℕ
  pub time : ℕ

-- the caller's fault
unfoldable pub idle_fault : IdleCall → ℕ
idle_fault call = step_fault call.link (length call.buffer) (nat_le call.structure last_structure)

-- milliseconds from a time to the present, in a count that goes round
abbrev pub elapsed : ℕ → ℕ → ℕ
elapsed present since = (present + (2 ^ 32 - since)) % 2 ^ 32

abbrev pub patience : ℕ
patience = 3000

-- waiting for three seconds or more: EOT, rest; else the state stays
abbrev pub passed : Link → ℕ → ℕ → Step
passed l structure time =
    cond (l.phase == waiting && nat_le patience (elapsed time l.time)) (quit structure timed_out) (silent l)

unfoldable pub idled : IdleCall → Step
idled call = unless_met (idle_fault call) (handed_back call.link) (passed (used call.link) call.structure call.time)
