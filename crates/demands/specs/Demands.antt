-- Demand 1 for the RKC line, and what else the customer asks of it: claims about every call.
use Rattle.std.specs.Prelude.{◌≡◌, ◌≢◌, ◌⊎◌, Bool, true, false, ◌&&◌, List, [], ◌∷◌, ◌++◌, map, ℕ, ◌+◌, ℤ}
use Rattle.std.proofs.lemmas.List.Edits.{sets}
use Rattle.std.specs.Int.Signed.{le_z}
use Rattle.numbers.specs.Numbers.{none}
use Rattle.items.specs.ItemList.{item_at, found, in_range}
use Rattle.table.specs.Table.{entry, M1, AA, AB, A1, A2, is_alarm_state, good_table, AlarmsTrue}
use Rattle.line.specs.Line.{ENQ, within, printable, keeps, sent, heard}
use Rattle.phases.specs.Phases.{addressed, waiting}
use Rattle.rkc.specs.declared.Stepped.{Stepped}
use Rattle.rkc.specs.State.{in_phase, holding_one, waiting_on, in_limits}
use Rattle.rkc.specs.Outcome.{Step, keeping, silent, no_room, data_reply, item_sent, polled}
use Rattle.rkc.specs.Outcome.{ByteCall, byte_fault, received, IdleCall, idle_fault, idled}
use Rattle.demands.specs.Numbers.{one_of, byte_faults, byte_numbers, byte_examples, idle_faults, idle_numbers, idle_examples}
use Rattle.rkc.specs.Promise.{Leads, Idles}

-- every byte keeps the line structure
abbrev pub all_keep : ℕ → List ℕ → Bool
all_keep structure [] = true
all_keep structure (b ∷ bs) = keeps structure b && all_keep structure bs

-- ---- one received byte

-- a call on what another left: state, table and buffer
abbrev pub next_byte : ByteCall → ℕ → ℕ → ByteCall
next_byte call time byte =
    record {
      link = (received call).step.link;
      table = (received call).table;
      buffer = sets call.buffer 0 (received call).step.reply;
      address = call.address;
      structure = call.structure;
      time = time;
      byte = byte;
    }

-- what is claimed of a byte call, whatever it is handed
pub record OfByte (call : ByteCall) : Type 0 where
  -- the caller's fault leaves state, table and buffer as they came, sends nothing and gives its number, 1 to 5
  pub fault_leaves_all : byte_fault call ≢ none → (r : Stepped) (after : List ℕ) (left : List ℤ) → Leads call r after left
      → (r ≡ record { link = call.link; number = byte_fault call; len = 0 }) × (after ≡ call.buffer) × (left ≡ call.table)
  pub fault_numbers : byte_fault call ≢ none → one_of byte_faults (received call).step.number ≡ true
  -- without a fault it gives 0, 11 to 18, 41, 42, 43 or 45, so none of 1 to 9, and not 46: an item that is asked for is sent
  pub other_numbers : byte_fault call ≡ none → one_of byte_numbers (received call).step.number ≡ true
  pub no_fault_number : byte_fault call ≡ none → within 1 9 (received call).step.number ≡ false
  pub always_room : byte_fault call ≡ none → (received call).step.number ≢ no_room
  -- any number but 0 leaves the table
  pub number_leaves_table : (received call).step.number ≢ none → (received call).table ≡ call.table
  -- each entry is unchanged or in its range; a read-only item keeps its number, the alarm states apart; a good table stays good, and
  -- the alarm states, which change only to stay true, are true
  pub stays_or_in_range : (j : ℕ)
      → (entry (received call).table j ≡ entry call.table j) ⊎ (in_range j (entry (received call).table j) ≡ true)
  pub read_only_stays : (j : ℕ) → (item_at j).writable ≡ false → is_alarm_state j ≡ false → entry (received call).table j ≡ entry call.table j
  pub good_stays_good : good_table call.table ≡ true → good_table (received call).table ≡ true
  pub alarms_stay_true : good_table call.table ≡ true → AlarmsTrue (received call).table
  -- the state handed back is within its limits, and the next call meets no fault either
  pub stays_in_limits : byte_fault call ≡ none → in_limits (received call).step.link ≡ true
  pub runs_on : byte_fault call ≡ none → (time byte : ℕ) → byte_fault (next_byte call time byte) ≡ none
  -- each byte sent keeps the line structure
  pub keeps_structure : all_keep call.structure (received call).step.reply ≡ true

-- ---- an idle call, which has no table

abbrev pub next_idle : IdleCall → ℕ → IdleCall
next_idle call time =
    record {
      link = (idled call).link;
      buffer = sets call.buffer 0 (idled call).reply;
      structure = call.structure;
      time = time;
    }

-- what is claimed of it: its faults are 3, 4 and 5, and without one it gives 0 or 44
pub record OfIdle (call : IdleCall) : Type 0 where
  pub fault_leaves_all : idle_fault call ≢ none → (r : Stepped) (after : List ℕ) → Idles call r after
      → (r ≡ record { link = call.link; number = idle_fault call; len = 0 }) × (after ≡ call.buffer)
  pub fault_numbers : idle_fault call ≢ none → one_of idle_faults (idled call).number ≡ true
  pub other_numbers : idle_fault call ≡ none → one_of idle_numbers (idled call).number ≡ true
  pub stays_in_limits : idle_fault call ≡ none → in_limits (idled call).link ≡ true
  pub runs_on : idle_fault call ≡ none → (time : ℕ) → idle_fault (next_idle call time) ≡ none
  pub keeps_structure : all_keep call.structure (idled call).reply ≡ true

-- ---- each of these numbers is given

pub record OfNumbers : Type 0 where
  pub by_bytes : map (λ (call : ByteCall). (received call).step.number) byte_examples ≡ byte_faults ++ byte_numbers
  pub by_idles : map (λ (call : IdleCall). (idled call).number) idle_examples ≡ idle_faults ++ idle_numbers

-- ---- polling on without the address

-- the byte as it was heard
abbrev pub came : ByteCall → ℕ
came call = heard call.structure call.byte

-- while waiting a character from 20H to 7EH comes, and the caller makes no fault
pub record PollsOn (call : ByteCall) : Type 0 where
  pub no_fault : byte_fault call ≡ none
  pub while_waiting : call.link.phase ≡ waiting
  pub is_printable : printable (came call) ≡ true

-- the same call right after the address
abbrev pub after_address : ByteCall → ByteCall
after_address call =
    record {
      link = in_phase addressed;
      table = call.table;
      buffer = call.buffer;
      address = call.address;
      structure = call.structure;
      time = call.time;
      byte = call.byte;
    }

-- an idle call on what a byte call left
abbrev pub idle_after : ByteCall → ℕ → IdleCall
idle_after call time =
    record {
      link = (received call).step.link;
      buffer = sets call.buffer 0 (received call).step.reply;
      structure = call.structure;
      time = time;
    }

-- it is kept as the first of an identifier, and all is as right after the address; a second one and ENQ, each at its time, poll
-- what the two name; no silence on the way ends the poll
pub record OfPollingOn (call : ByteCall) : Type 0 where
  pub first_kept : received call ≡ keeping call.table (silent (holding_one (came call)))
  pub as_addressed : received call ≡ received (after_address call)
  pub polls : (t u second third : ℕ) → printable (heard call.structure second) ≡ true → heard call.structure third ≡ ENQ
      → received (next_byte (next_byte call t second) u third)
      ≡ keeping call.table (polled call.structure u call.table (found (came call) (heard call.structure second)))
  pub no_limit_after_first : (time : ℕ) → idled (idle_after call time) ≡ silent (received call).step.link
  pub no_limit_after_second : (t second time : ℕ) → printable (heard call.structure second) ≡ true
      → idled (idle_after (next_byte call t second) time) ≡ silent (received (next_byte call t second)).step.link

-- ---- the alarm states

-- "000001" where an alarm's state is 1, else "000000"
abbrev pub state_text : Bool → List ℕ
state_text true = 0x30 ∷ 0x30 ∷ 0x30 ∷ 0x30 ∷ 0x30 ∷ 0x31 ∷ []
state_text false = 0x30 ∷ 0x30 ∷ 0x30 ∷ 0x30 ∷ 0x30 ∷ 0x30 ∷ []

-- the data reply of an alarm's state
abbrev pub state_sent : ℕ → ℕ → ℕ → Bool → Step
state_sent structure time i on =
    record { link = waiting_on (i + 1) time; number = none; reply = map (sent structure) (data_reply i (state_text on)) }

-- a poll of AA in a good table sends 1 exactly when M1 is at least A1, of AB when M1 is at least A2
pub record OfAlarms (structure time : ℕ) (t : List ℤ) : Type 0 where
  pub polled_aa : good_table t ≡ true → item_sent structure time t AA ≡ state_sent structure time AA (le_z (entry t A1) (entry t M1))
  pub polled_ab : good_table t ≡ true → item_sent structure time t AB ≡ state_sent structure time AB (le_z (entry t A2) (entry t M1))
