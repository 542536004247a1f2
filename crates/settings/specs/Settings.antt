-- What a message sets, and what is claimed of it: all of its values are stored or none, no entry outside its span moves but the
-- alarm states, and what was written reads back. The claims are of the rules for a message, so they hold on every line that hands its messages to them.
use Rattle.std.specs.Prelude.{ℕ, ◌<◌, ◌≡◌, ◌≢◌, ◌⊎◌, Bool, true, false, cond, ◌&&◌, List, [], ◌∷◌, ◌++◌, eqb, ℤ, length, get_or, drop}
use Rattle.numbers.specs.Numbers.{none}
use Rattle.items.specs.ItemList.{items, item_at}
use Rattle.table.specs.Table.{entry, is_alarm_state, good_table, AlarmsTrue}
use Rattle.registers.specs.Register.{high_first}
use Rattle.registers.specs.Faults.{right_length, first_word, data_place, right_counts}
use Rattle.writes.specs.Writes.{Write, writes, Outside, allowed, each, stored_all, given, over}
use Rattle.writes.specs.Requests.{value_place}
use Rattle.modbus.specs.Outcome.{done, address_of, function_of}
use Rattle.modbus.specs.Rules.{read_registers, write_register, write_several, ours, acted}

-- the bytes of data that a message brings to be written: the value of 06H, the data of 10H, none by any other function
abbrev pub data_of : List ℕ → List ℕ
data_of body =
    cond (eqb (function_of body) write_register) (drop value_place body)
    (cond (eqb (function_of body) write_several) (drop data_place body) [])

-- what a message asks to write; `given (writes_of body) i` is what it gives the item at place i
abbrev pub writes_of : List ℕ → List Write
writes_of body = writes (first_word body) (data_of body)

-- it has the form of a request to write, that of 06H or of 10H
abbrev pub right_form : List ℕ → Bool
right_form body =
    cond (eqb (function_of body) write_register) (right_length body)
    (cond (eqb (function_of body) write_several) (right_counts body) false)

-- a message is a write that the rules accept, for a device with this address: it is ours, its form is right, and each write of it is
-- allowed. The table makes no difference to that.
unfoldable pub accepts_write : ℕ → List ℕ → Bool
accepts_write address body = ours address body && right_form body && each allowed (writes_of body)

-- it asks to write where its function is one of the two
abbrev pub ToWrite : List ℕ → Type 0
ToWrite body = (function_of body ≡ write_register) ⊎ (function_of body ≡ write_several)

-- a request to read the registers that a message writes
abbrev pub reading_back : List ℕ → List ℕ
reading_back body =
    address_of body ∷ read_registers ∷ (high_first (first_word body) ++ high_first (length (writes_of body)))

pub record OfWriting (table : List ℤ) (address : ℕ) (body : List ℕ) : Type 0 where
  -- none: a message that is given a number leaves the table
  pub refused_leaves : (acted table address body).number ≢ none → (acted table address body).table ≡ table
  -- all: one that is given none stores all that it asks to write, so each entry but the alarm states becomes what the message gives its
  -- item, and stays where it gives nothing
  pub all_stored : (acted table address body).number ≡ none → (acted table address body).table ≡ stored_all table (writes_of body)
  pub entry_given : (acted table address body).number ≡ none → (i : ℕ) → is_alarm_state i ≡ false → i < length table
      → entry (acted table address body).table i ≡ over (entry table i) (given (writes_of body) i)
  -- an entry whose register is outside the span stays, the alarm states apart
  pub outside_stays : (i : ℕ) → is_alarm_state i ≡ false → Outside (first_word body) (length (writes_of body)) (item_at i).register
      → entry (acted table address body).table i ≡ entry table i
  -- those are true after it, in a table that is good before it
  pub alarms_stay_true : good_table table ≡ true → AlarmsTrue (acted table address body).table
  -- after a write that is given no number, of bytes and in a table of the right length, a read of the same registers answers the data
  -- that was sent
  pub reads_back : (acted table address body).number ≡ none → ToWrite body → ((i : ℕ) → get_or body i 0 < 256) → length table ≡ items
      → acted (acted table address body).table address (reading_back body)
      ≡ done (address_of body ∷ read_registers ∷ length (data_of body) ∷ data_of body) (acted table address body).table
