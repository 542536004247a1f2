-- What is claimed in specs/Claims.antt of every question to every capture.
-- Assumes nothing.
use Rattle.std.specs.Prelude.{Option, None}
use mathlib.Core.Path.{◌≡◌, refl, sym, ap, ◌∙◌}
use mathlib.Core.Bool.{Bool, true, false}
use mathlib.Core.List.{List}
use Prim.Native.Nat.{ℕ, ◌+◌, ◌-◌, ◌≤◌, ◌<◌}
use native.Mathlib.Numerals.{add-one}
use native.Mathlib.Omega.{arith}
use borrow.Author.Tests.{eqb-true, eqb-false, eq-eqb}
use lib.Dec.{eqb}
use lib.IntN.{ℤ}
use lib.ListN.{length, replicate, length-replicate}
use Rattle.numbers.specs.Numbers.{none, least_buffer}
use Rattle.numbers.proofs.Tests.{contrary, both, chosen}
use Rattle.numbers.proofs.Order.{test-held, is-refused, is-done, either_way}
use Rattle.items.specs.ItemList.{items, listed, item_at}
use Rattle.items.proofs.Lookup.{listed-place}
use Rattle.table.specs.Table.{entry, is_alarm_state, start_values}
use Rattle.writes.specs.Writes.{is_value, over}
use Rattle.call.specs.Call.{is_address}
use Rattle.capture.specs.Format.{bad_capture, begins, record_ends, frame_before, trailer_begins, count, capture_fault, frames}
use Rattle.capture.proofs.Walk.{sound, fault-reached}
use Rattle.playback.specs.Playback.{played}
use Rattle.playback.specs.Written.{last_write}
use Rattle.playback.proofs.Frames.{start_fine, handed-writes, read-only-writes}
use Rattle.playback.proofs.Played.{play_capture}
use Rattle.playback.proofs.Claims.{playback-claimed}
use Rattle.last_write.specs.LastWrite.{Question, place_after, written_before, passed_over, stop, write_found, undamaged}
use Rattle.last_write.specs.LastWrite.{ask_number, last_written, Answers}
use Rattle.last_write.specs.Claims.{frames_read, records_from, OfWellFormed, OfLastWrite}
use Rattle.last_write.proofs.First.{first-is}
use Rattle.last_write.proofs.Walked.{one_further, no_record, found_at, askable, number_by, is-answer}
use Rattle.last_write.proofs.Frames.{going_on, Stopped, stops, leads-back, agrees}
use Rattle.last_write.proofs.Front.{answered-alike}

-- ---- where the walk from the trailer stops

module _ (q : Question) (c : List ℕ) where
  stopped : Stopped q c (trailer_begins c)
  stopped = stops q c (trailer_begins c) (trailer_begins c) (omega arith)

  in-time : stopped.passed ≤ length c
  unfolding trailer_begins
  in-time = let few = stopped.few in omega arith

  at_last : (passed_over q c ≡ stopped.passed) × (stop q c ≡ place_after c (trailer_begins c) stopped.passed)
  at_last = found_at q c stopped.passed in-time stopped.first

-- ---- a well-formed capture

-- full playback leaves in each entry but the alarm states what the last of the frames writes to its item
played-entry : (t : List ℤ) (address : ℕ) (c : List ℕ) → length t ≡ items → is_address address ≡ true → capture_fault c ≡ none → (i : ℕ)
    → is_alarm_state i ≡ false → i < items → entry (played t address c) i ≡ over (entry start_values i) (last_write address (frames c) i)
played-entry t address c l a fine i s h =
    let buffer = replicate {A = ℕ} least_buffer 0 in
    let room : least_buffer ≤ length buffer = omega (arith, length-replicate {A = ℕ} least_buffer 0) in
    ap (λ (u : List ℤ). entry u i) ((playback-claimed t address c).any_buffer (play_capture t address c l a ∙ fine) buffer room)
    ∙ handed-writes (frames c) (record { table = start_values; buffer = buffer; address = address }) (start_fine address buffer a room) i s h

module _ (q : Question) (c : List ℕ) (a : is_address q.address ≡ true) (i : listed q.item ≡ true) (fine : capture_fault c ≡ none) where
  abbrev last : Option ℤ
  last = last_write q.address (frames c) (q.item - 1)

  answered : Answers q c (record { number = none; written = last; records = frames_read q.address (frames c) (q.item - 1) })
  unfolding frames
  answered =
      let s = sound c fine in
      let at = at_last q c in
      let g = agrees q c (count c) (trailer_begins c) (stopped q c).passed s.walking (stopped q c).first in
      let here : write_found q c ≡ last = ap (written_before q c) at.1 ∙ g.written in
      let all : is_value last ≡ false → (stop q c ≡ 0) × (passed_over q c ≡ count c) = λ v. let e = g.all v in (at.1 ∙ e.0, at.0 ∙ e.1) in
      is-answer q c (record { address = a; item = i; trailer = s.right }) (whole here all) here (rw at.0 g.read)
    where
      whole : write_found q c ≡ last → (is_value last ≡ false → (stop q c ≡ 0) × (passed_over q c ≡ count c)) → undamaged q c ≡ true
      whole here all = by (is_value last) refl
        where
          by : (b : Bool) → is_value last ≡ b → undamaged q c ≡ true
          by true v = rw (here, v)
          by false v = let e = all v in rw (here, v, eq-eqb _ _ e.0, eq-eqb _ _ e.1)

  well-formed : OfWellFormed q c
  well-formed =
      record {
        answered = sym answered.given;
        last_of_frames = sym answered.written;
        read_of_frames = sym answered.read;
        in_playback = λ s t l. rw (← answered.written) (played-entry t q.address c l a fine (q.item - 1) s (listed-place q.item i).1);
      }

-- ---- any capture

module _ (q : Question) (c : List ℕ) where
  -- without a number what was found is told
  found-told : ask_number q c ≡ none → last_written q c ≡ write_found q c
  unfolding last_written
  found-told = is-done (ask_number q c) (λ number. None) (write_found q c)

  -- and where a value is told, there is none
  told : is_value (last_written q c) ≡ true → (ask_number q c ≡ none) × (last_written q c ≡ write_found q c)
  unfolding last_written
  told v = by (eqb (ask_number q c) none) refl
    where
      by : (b : Bool) → eqb (ask_number q c) none ≡ b → (ask_number q c ≡ none) × (last_written q c ≡ write_found q c)
      by true e = let met = eqb-true (ask_number q c) none e in (met, found-told met)
      by false e =
          let nothing = is-refused (ask_number q c) (λ number. None) (write_found q c) (eqb-false (ask_number q c) none e) in
          contrary (sym v ∙ ap is_value nothing)

  -- by a record that ends there
  value-ends : (end : ℕ) → is_value (written_before q c end) ≡ true → record_ends c end ≡ true
  value-ends end v = by (record_ends c end) refl
    where
      by : (b : Bool) → record_ends c end ≡ b → record_ends c end ≡ true
      by true r = r
      by false r = contrary (sym v ∙ ap is_value (no_record q c end r))

  -- a read-only item is written by no record
  read-only-before : (item_at (q.item - 1)).writable ≡ false → (end : ℕ) → written_before q c end ≡ None
  unfolding written_before
  read-only-before r end =
      chosen (λ (g : Option ℤ). g ≡ None) (record_ends c end) (λ _. read-only-writes q.address (frame_before c end) (q.item - 1) r) (λ _. refl)

  -- nothing is told that was not found
  not-told : write_found q c ≡ None → last_written q c ≡ None
  unfolding last_written
  not-told e = either_way (ask_number q c) (λ number. None) (write_found q c) (λ (g : Option ℤ). g ≡ None) (λ _. refl) (λ _. e)

pub last-write-claimed : (q : Question) (c : List ℕ) → OfLastWrite q c
unfolding passed_over
last-write-claimed q c =
    record {
      well_formed = well-formed q c;
      front_unseen = λ v d place right same.
          let t = told q c v in
          let a = askable q c t.0 in
          let at = at_last q c in
          let n = (stopped q c).passed in
          let value : is_value (write_found q c) ≡ true = ap is_value (sym t.1) ∙ v in
          let ended = rw at.1 at (value-ends q c (stop q c) value) in
          let begin = ap (begins c) at.1 ∙ sym (one_further c n (trailer_begins c)) in
          let there =
          answered-alike q c d n place (stopped q c).first ended (same ∙ ap (λ (p : ℕ). records_from p c) begin)
          (record { address = a.address; item = a.item; trailer = right }) (ap (written_before q c) at.1) value in
          let here = is-answer q c a {n = n + 1} (rw value) refl (rw (value, at.0, add-one n)) in
          (sym there.given ∙ here.given, sym there.written ∙ here.written, sym there.read ∙ here.read);
      never_is_whole = λ e nothing.
          let a = askable q c e in
          let at = at_last q c in
          let held = test-held (undamaged q c) bad_capture (omega arith) (sym (number_by q c a) ∙ e) in
          let none_found : write_found q c ≡ None = sym (found-told q c e) ∙ nothing in
          let all = both (eqb (stop q c) 0) (eqb (passed_over q c) (count c)) (rw none_found at held) in
          let reached = leads-back c (stopped q c).passed (trailer_begins c)
          (λ k h. (going_on q c (place_after c (trailer_begins c) k) ((stopped q c).first.before k h)).0)
          (sym at.1 ∙ eqb-true _ _ all.0) in
          fault-reached c ∙ rw (a.trailer, ← (sym at.0 ∙ eqb-true _ _ all.1), reached);
      read_only_never = λ r. not-told q c (read-only-before q c r (stop q c));
      stops_in_time = λ bound h.
          first-is bound _ (stopped q c).passed (omega (arith, in-time q c)) (stopped q c).first ∙ sym (at_last q c).0;
    }
