-- What is claimed of an answer beside its promise.
use Rattle.std.specs.Prelude.{ℕ, suc, ◌-◌, ◌≤◌, ◌≡◌, true, false, cond, List, [], ◌∷◌, ℤ, length, take, drop, None}
use Rattle.numbers.specs.Numbers.{none}
use Rattle.items.specs.ItemList.{items, listed, item_at}
use Rattle.table.specs.Table.{entry, is_alarm_state, start_values}
use Rattle.writes.specs.Writes.{is_value, over}
use Rattle.call.specs.Call.{is_address}
use Rattle.capture.specs.Format.{begins, trailer_begins, trailer_right, capture_fault, frames}
use Rattle.playback.specs.Playback.{played}
use Rattle.playback.specs.Written.{last_write}
use Rattle.last_write.specs.LastWrite.{Question, first_below, place_after, stops_at, passed_over, stop}
use Rattle.last_write.specs.LastWrite.{ask_number, last_written, records_read}

-- how many frames there are from the end up to the last one that writes to an item, both counted, or all where none does. So the first of
-- all is not counted where one behind it writes to the item, and else all are.
abbrev pub frames_read : ℕ → List (List ℕ) → ℕ → ℕ
frames_read address [] i = 0
frames_read address (f ∷ fs) i = cond (is_value (last_write address fs i)) (frames_read address fs i) (suc (length fs))

-- the records of a capture from a place on, up to its trailer
abbrev pub records_from : ℕ → List ℕ → List ℕ
records_from place c = drop place (take (trailer_begins c) c)

-- of a well-formed capture, and a question with an address that a device can have and a number that an item has
pub record OfWellFormed (q : Question) (c : List ℕ) : Type 0 where
  pub answered : ask_number q c ≡ none
  -- the answer is what full playback finds in its last write to the item, and the records read are that frame's distance from the end
  pub last_of_frames : last_written q c ≡ last_write q.address (frames c) (q.item - 1)
  pub read_of_frames : records_read q c ≡ frames_read q.address (frames c) (q.item - 1)
  -- the table of playback holds that value at the end, and the start value where the item was never written, unless it is an alarm state
  pub in_playback : is_alarm_state (q.item - 1) ≡ false → (t : List ℤ) → length t ≡ items
      → entry (played t q.address c) (q.item - 1) ≡ over (entry start_values (q.item - 1)) (last_written q c)

-- of any capture
pub record OfLastWrite (q : Question) (c : List ℕ) : Type 0 where
  pub well_formed : is_address q.address ≡ true → listed q.item ≡ true → capture_fault c ≡ none → OfWellFormed q c
  -- the answer depends on nothing in front of the record that answers: another capture that has the same records from there on, and
  -- whose trailer is right, gets the same answer, whatever stands in front and whatever either trailer counts
  pub front_unseen : is_value (last_written q c) ≡ true → (d : List ℕ) (place : ℕ) → trailer_right d ≡ true
      → records_from place d ≡ records_from (begins c (stop q c)) c
      → (ask_number q d ≡ ask_number q c) × (last_written q d ≡ last_written q c) × (records_read q d ≡ records_read q c)
  -- never written is said of well-formed captures alone
  pub never_is_whole : ask_number q c ≡ none → last_written q c ≡ None → capture_fault c ≡ none
  -- a read-only item is never written
  pub read_only_never : (item_at (q.item - 1)).writable ≡ false → last_written q c ≡ None
  -- the walk stops within as many records as the capture has bytes: a search that goes on further finds no other place
  pub stops_in_time : (bound : ℕ) → length c ≤ bound
      → first_below bound (λ n. stops_at q c (place_after c (trailer_begins c) n)) ≡ passed_over q c
