-- Who last set an item: a walk back from the trailer of a capture, up to the first frame that is met and writes the item.
use Rattle.std.specs.Prelude.{ℕ, zero, suc, ◌-◌, ◌≡◌, Bool, true, cond, not, ◌&&◌, ◌||◌, List, [], ◌∷◌, eqb, length, Option, None, ℤ, Result, Ok, Err}
use Rattle.numbers.specs.declared.Refusal.{Refusal}
use Rattle.numbers.specs.Numbers.{none, unless, first_met, unless_met, bad_setting}
use Rattle.numbers.specs.Refusals.{number_of}
use Rattle.items.specs.ItemList.{listed}
use Rattle.table.specs.Table.{no_such_item}
use Rattle.writes.specs.Writes.{is_value}
use Rattle.call.specs.Call.{is_address}
use Rattle.capture.specs.Format.{bad_capture, begins, record_ends, frame_before, trailer_begins, trailer_right, count}
use Rattle.playback.specs.Written.{wrote}
use Rattle.last_write.specs.declared.LastWrite.{LastWrite}

-- what is asked of a capture: the address of the device, and the item by its number from 1
pub record Question : Type 0 where
  pub address : ℕ
  pub item : ℕ

-- the first number below a bound of which a test holds, and the bound where there is none
abbrev pub first_below : ℕ → (ℕ → Bool) → ℕ
first_below zero test = 0
first_below (suc bound) test = cond (test 0) 0 (suc (first_below bound (λ n. test (suc n))))

-- ---- the walk back

-- where a walk from a place is after so many records: the next one ends in front of there
abbrev pub place_after : List ℕ → ℕ → ℕ → ℕ
place_after c end zero = end
place_after c end (suc n) = place_after c (begins c end) n

-- what the record that ends in front of a place writes to the item: nothing where none ends there
unfoldable pub written_before : Question → List ℕ → ℕ → Option ℤ
written_before q c end = cond (record_ends c end) (wrote q.address (frame_before c end) (q.item - 1)) None

-- the walk stops where no record ends, as at place 0, and where the one that does writes the item
abbrev pub stops_at : Question → List ℕ → ℕ → Bool
stops_at q c end = not (record_ends c end) || is_value (written_before q c end)

-- how many records it passes over until it stops: no more than the capture has bytes, since each of them has some
unfoldable pub passed_over : Question → List ℕ → ℕ
passed_over q c = first_below (length c) (λ n. stops_at q c (place_after c (trailer_begins c) n))

-- where it stops
unfoldable pub stop : Question → List ℕ → ℕ
stop q c = place_after c (trailer_begins c) (passed_over q c)

-- what it finds: what the record there writes to the item
abbrev pub write_found : Question → List ℕ → Option ℤ
write_found q c = written_before q c (stop q c)

-- the distance from the end to the record that answers, both counted, and where none does all that were passed over
abbrev pub distance : Question → List ℕ → ℕ
distance q c = cond (is_value (write_found q c)) (suc (passed_over q c)) (passed_over q c)

-- it has met no damage where a frame answers, or where it has reached place 0 after as many records as the trailer says
abbrev pub undamaged : Question → List ℕ → Bool
undamaged q c = is_value (write_found q c) || (eqb (stop q c) 0 && eqb (passed_over q c) (count c))

-- ---- the answer

-- the address, then the item, then the capture's length and the trailer's place, then damage on the way
unfoldable pub ask_number : Question → List ℕ → ℕ
ask_number q c =
    first_met
    (unless (is_address q.address) bad_setting
    ∷ unless (listed q.item) no_such_item
    ∷ unless (trailer_right c) bad_capture
    ∷ unless (undamaged q c) bad_capture
    ∷ [])

-- the last value that was written to the item, or nothing; nothing where a number is met
unfoldable pub last_written : Question → List ℕ → Option ℤ
last_written q c = unless_met (ask_number q c) (λ number. None) (write_found q c)

-- the records read: the distance, and none where a number is met
unfoldable pub records_read : Question → List ℕ → ℕ
records_read q c = unless_met (ask_number q c) (λ number. 0) (distance q c)

-- what an answer is: the number, the last value that was written, or nothing, and how many records were read
pub record Answer : Type 0 where
  pub number : ℕ
  pub written : Option ℤ
  pub records : ℕ

-- what an outcome of the code is: what the walk found, or a refusal, which finds nothing and reads none
abbrev pub answer_as : Result LastWrite Refusal → Answer
answer_as (Ok found) = record { number = none; written = found.written; records = found.records }
answer_as (Err refusal) = record { number = number_of refusal; written = None; records = 0 }

-- the promise of an answer
pub record Answers (q : Question) (c : List ℕ) (r : Answer) : Type 0 where
  pub given : r.number ≡ ask_number q c
  pub written : r.written ≡ last_written q c
  pub read : r.records ≡ records_read q c

-- a question that has an answer where the walk meets no damage
pub record Askable (q : Question) (c : List ℕ) : Type 0 where
  pub address : is_address q.address ≡ true
  pub item : listed q.item ≡ true
  pub trailer : trailer_right c ≡ true
