-- The walk back as far as it has come, and the answer where it stops.
-- Assumes nothing.
use Rattle.std.specs.Prelude.{Option, Some, None, ℤ, Err}
use Rattle.std.specs.Borrow.{Bor}
use Rattle.std.specs.Option.{is_some}
use mathlib.Core.Path.{◌≡◌, refl, sym, ap, ◌∙◌}
use mathlib.Core.Bool.{Bool, true, false, cond, ◌&&◌, and-false}
use mathlib.Core.List.{List}
use Prim.Native.Nat.{ℕ, zero, suc, ◌+◌, ◌-◌, ◌≤◌, ◌<◌}
use native.Mathlib.Numerals.{add-one}
use native.Mathlib.Omega.{arith}
use borrow.Author.Count.{below_more}
use borrow.Author.Tests.{eq-eqb, ne_eqb, lt-leb}
use lib.Dec.{eqb, leb}
use lib.ListN.{length}
use Rattle.numbers.specs.declared.Refusal.{Refusal}
use Rattle.numbers.specs.declared.Refusal.TheVariants.{BadSetting, NoSuchItem, BadCapture}
use Rattle.numbers.specs.Numbers.{none, unless, bad_setting}
use Rattle.numbers.specs.Refusals.{number_of}
use Rattle.numbers.proofs.Refusals.{refusal-met}
use Rattle.numbers.proofs.Tests.{contrary, chosen}
use Rattle.numbers.proofs.Order.{last-met, passed, is-refused, is-done, either_way}
use Rattle.items.specs.ItemList.{listed}
use Rattle.table.specs.Table.{no_such_item}
use Rattle.writes.specs.Writes.{is_value}
use Rattle.call.specs.Call.{is_address}
use Rattle.capture.specs.Format.{bad_capture, longest_capture, longest_frame, size_bytes, size, begins, record_ends, frame_before}
use Rattle.capture.specs.Format.{trailer_begins, trailer_right, count}
use Rattle.capture.specs.declared.Back.{Back}
use Rattle.capture.specs.Back.{Steps}
use Rattle.capture.proofs.Walk.{ends, nearer, begun}
use Rattle.playback.specs.Written.{wrote}
use Rattle.last_write.specs.LastWrite.{Question, place_after, written_before, stops_at, passed_over, stop, write_found, distance}
use Rattle.last_write.specs.LastWrite.{undamaged, ask_number, last_written, records_read, Answers, answer_as, Askable}
use Rattle.last_write.proofs.First.{Earliest, first-within, first-is}

-- ---- one record

module _ (c : List ℕ) where
  -- one record further
  pub one_further : (n end : ℕ) → place_after c end (suc n) ≡ begins c (place_after c end n)
  one_further zero end = refl
  one_further (suc n) end = one_further n (begins c end)

  -- none ends at place 0
  pub none-at-0 : record_ends c 0 ≡ false
  unfolding record_ends
  none-at-0 = rw (lt-leb (size c 0 + size_bytes) 0 (omega arith)) (and-false (leb 1 (size c 0) && leb (size c 0) longest_frame))

module _ (q : Question) (c : List ℕ) (end : ℕ) where
  -- what it writes to the item, by whether there is one
  pub by-frame : record_ends c end ≡ true → written_before q c end ≡ wrote q.address (frame_before c end) (q.item - 1)
  unfolding written_before
  by-frame r = rw r

  pub no_record : record_ends c end ≡ false → written_before q c end ≡ None
  unfolding written_before
  no_record r = rw r

-- ---- as far as it has come

module _ (q : Question) (c : List ℕ) where
  -- so many records were passed over, and the walk is at this place
  pub record Walked (n end : ℕ) : Type 0 where
    pub here : end ≡ place_after c (trailer_begins c) n
    pub few : n + end ≤ trailer_begins c
    pub passed : (k : ℕ) → k < n → stops_at q c (place_after c (trailer_begins c) k) ≡ false

  pub walk-starts : {end : ℕ} → end ≡ trailer_begins c → Walked 0 end
  walk-starts e = record { here = e; few = omega arith; passed = λ k h. absurd (omega arith) }

  pub walk-on : {n end place : ℕ} → Walked n end → place ≡ begins c end → record_ends c end ≡ true
      → wrote q.address (frame_before c end) (q.item - 1) ≡ None → Walked (n + 1) place
  walk-on {n} {end} {place} w p r e =
      let behind = (ends c end r).behind in
      let few = w.few in
      record {
        here = rw (add-one n) (p ∙ ap (begins c) w.here ∙ sym (one_further c n (trailer_begins c)));
        few = omega arith;
        passed = below_more _ n w.passed (rw (← w.here, r, by-frame q c end r ∙ e));
      }

-- ---- where it stops

-- at the first record at which it can, which is none past the capture's length
pub found_at : (q : Question) (c : List ℕ) (n : ℕ) → n ≤ length c → Earliest (λ k. stops_at q c (place_after c (trailer_begins c) k)) n
    → (passed_over q c ≡ n) × (stop q c ≡ place_after c (trailer_begins c) n)
unfolding passed_over stop
found_at q c n h e = let first = first-is (length c) _ n h e in (first, ap (place_after c (trailer_begins c)) first)

-- a refusal is met, and so nothing is told
pub no_answer : (q : Question) (c : List ℕ) (refusal : Refusal) → ask_number q c ≡ number_of refusal → Answers q c (answer_as (Err refusal))
unfolding last_written records_read
no_answer q c refusal e =
    let met : ask_number q c ≡ none → ⊥ = λ z. refusal-met refusal (sym e ∙ z) in
    record {
      given = sym e;
      written = sym (is-refused (ask_number q c) (λ number. None) (write_found q c) met);
      read = sym (is-refused (ask_number q c) (λ number. 0) (distance q c) met);
    }

-- the address, the item, and where a walk can't begin
module _ (q : Question) (c : List ℕ) where
  pub no_address : is_address q.address ≡ false → Answers q c (answer_as (Err BadSetting))
  unfolding ask_number
  no_address a = no_answer q c BadSetting (rw a)

  module _ (a : is_address q.address ≡ true) where
    pub no_item : listed q.item ≡ false → Answers q c (answer_as (Err NoSuchItem))
    unfolding ask_number
    no_item i = no_answer q c NoSuchItem (rw (a, i))

    pub no-trailer : listed q.item ≡ true → trailer_right c ≡ false → Answers q c (answer_as (Err BadCapture))
    unfolding ask_number
    no-trailer i t = no_answer q c BadCapture (rw (a, i, t))

  -- what is known of a question that is answered
  pub askable : ask_number q c ≡ none → Askable q c
  unfolding ask_number
  askable e =
      let a = passed (is_address q.address) bad_setting _ (omega arith) e in
      let i = passed (listed q.item) no_such_item _ (omega arith) a.1 in
      let t = passed (trailer_right c) bad_capture _ (omega arith) i.1 in
      record { address = a.0; item = i.0; trailer = t.0 }

  -- few enough records are read for 32 bits
  pub read_small : records_read q c ≤ longest_capture + 1
  unfolding records_read passed_over
  read_small =
      either_way (ask_number q c) (λ number. 0) (distance q c) (λ (n : ℕ). n ≤ longest_capture + 1) (λ _. omega arith)
      (λ e.
      let short = (begun c (askable e).trailer).short in
      let few = first-within (length c) (λ n. stops_at q c (place_after c (trailer_begins c) n)) in
      chosen (λ (n : ℕ). n ≤ longest_capture + 1) (is_value (write_found q c)) (λ _. omega arith) (λ _. omega arith))

module _ (q : Question) (c : List ℕ) (a : Askable q c) where
  pub number_by : ask_number q c ≡ unless (undamaged q c) bad_capture
  unfolding ask_number
  number_by = rw (a.address, a.item, a.trailer) (last-met _)

  -- it has met no damage, and this is told
  pub is-answer : {g : Option ℤ} {n : ℕ} → undamaged q c ≡ true → write_found q c ≡ g
      → cond (is_value g) (suc (passed_over q c)) (passed_over q c) ≡ n → Answers q c (record { number = none; written = g; records = n })
  unfolding last_written records_read
  is-answer u f r =
      let met : ask_number q c ≡ none = number_by ∙ rw u in
      record {
        given = sym met;
        written = sym (is-done (ask_number q c) (λ number. None) (write_found q c) met ∙ f);
        read = sym (is-done (ask_number q c) (λ number. 0) (distance q c) met ∙ rw f r);
      }

  module _ {n end : ℕ} (w : Walked q c n end) where
    -- it stops here
    pub stops-here : stops_at q c end ≡ true → (passed_over q c ≡ n) × (stop q c ≡ end)
    unfolding trailer_begins
    stops-here s =
        let few = w.few in
        let at = found_at q c n (omega arith) (record { holds = ap (stops_at q c) (sym w.here) ∙ s; before = w.passed }) in
        (at.0, at.1 ∙ sym w.here)

    -- a frame answers
    pub frame-answers : record_ends c end ≡ true → {g : Option ℤ} → g ≡ wrote q.address (frame_before c end) (q.item - 1) → is_value g ≡ true
        → Answers q c (record { number = none; written = g; records = n + 1 })
    frame-answers r {g} e v =
        let there = by-frame q c end r ∙ sym e in
        let at = stops-here (rw (r, there, v)) in
        let f : write_found q c ≡ g = ap (written_before q c) at.1 ∙ there in
        is-answer (rw (f, v)) f (rw (v, at.0, add-one n))

    -- no record ends here: nothing is found, and whether all were read decides
    module _ (r : record_ends c end ≡ false) where
      at-end : (passed_over q c ≡ n) × (stop q c ≡ end)
      at-end = stops-here (rw r)

      nothing : write_found q c ≡ None
      nothing = ap (written_before q c) at-end.1 ∙ no_record q c end r

      pub meets-damage : (eqb end 0 && eqb n (count c)) ≡ false → Answers q c (answer_as (Err BadCapture))
      meets-damage other = no_answer q c BadCapture (number_by ∙ rw (nothing, at-end.0, at-end.1, other))

      pub all_read : (eqb end 0 && eqb n (count c)) ≡ true → Answers q c (record { number = none; written = None; records = n })
      all_read all = is-answer (rw (nothing, at-end.0, at-end.1, all)) nothing at-end.0

-- ---- a walk back over the capture, one step after the other

module _ (q : Question) (c : List ℕ) where
  -- so many records were passed over, and it is where the walk is then
  pub record Come (n : ℕ) (walk : Back) : Type 0 where
    pub same : walk.capture.now ≡ c
    pub walked : Walked q c n walk.end

  module _ {n : ℕ} {walk further : Back} {given : Option ℕ} (w : Come n walk) (s : Steps walk given further) where
    ended : (b : Bool) → record_ends c walk.end ≡ b → given ≡ cond b (Some walk.end) None
    ended b r = s.place ∙ ap (λ (d : List ℕ). cond (record_ends d walk.end) (Some walk.end) None) w.same ∙ rw r

    ends-there : {end : ℕ} → given ≡ Some end → (record_ends c walk.end ≡ true) × (end ≡ walk.end)
    ends-there {end} g = by (record_ends c walk.end) refl
      where
        by : (b : Bool) → record_ends c walk.end ≡ b → (record_ends c walk.end ≡ true) × (end ≡ walk.end)
        by true r = (r, cc (ended true r))
        by false r = absurd (cc (ended false r))

    none-ends : given ≡ None → record_ends c walk.end ≡ false
    none-ends g = by (record_ends c walk.end) refl
      where
        by : (b : Bool) → record_ends c walk.end ≡ b → record_ends c walk.end ≡ false
        by true r = absurd (cc (ended true r))
        by false r = r

    -- each step goes nearer to place 0
    pub comes-nearer : {end : ℕ} → given ≡ Some end → further.end < walk.end
    comes-nearer g =
        let e = ends-there g in
        let here : further.end ≡ begins c walk.end = s.further ∙ rw (w.same, e.0) in
        omega (arith, nearer c walk.end e.0)

    -- past a record that does not write the item it goes on
    pub comes-on : {end : ℕ} {frame : List ℕ} {written : Option ℤ} → given ≡ Some end → frame ≡ frame_before c end
        → written ≡ wrote q.address frame (q.item - 1) → is_some written ≡ false → Come (n + 1) further
    comes-on {end} {frame} {written} g f o none =
        let e = ends-there g in
        let there : frame ≡ frame_before c walk.end = f ∙ ap (frame_before c) e.1 in
        let here : further.end ≡ begins c walk.end = s.further ∙ rw (w.same, e.0) in
        record {
          same = ap (λ (b : Bor (List ℕ)). b.now) s.same ∙ w.same;
          walked = walk-on q c w.walked here e.0 (rw (← there, ← o) (no_value written none));
        }
      where
        no_value : (g : Option ℤ) → is_some g ≡ false → g ≡ None
        no_value (Some v) e = contrary e
        no_value None e = refl

    module _ (a : Askable q c) where
      -- one that writes it answers
      pub comes-to-write : {end : ℕ} {frame : List ℕ} {written : Option ℤ} → given ≡ Some end → frame ≡ frame_before c end
          → written ≡ wrote q.address frame (q.item - 1) → is_some written ≡ true
          → Answers q c (record { number = none; written = written; records = n + 1 })
      comes-to-write {end} {frame} {written} g f o some =
          let e = ends-there g in
          frame-answers q c a w.walked e.0 (o ∙ ap (λ (d : List ℕ). wrote q.address d (q.item - 1)) (f ∙ ap (frame_before c) e.1)) (value written some)
        where
          value : (g : Option ℤ) → is_some g ≡ true → is_value g ≡ true
          value (Some v) e = refl
          value None e = contrary (sym e)

      -- where no record ends it has met damage, unless it is at place 0
      pub comes-to-damage : given ≡ None → 0 < walk.end → Answers q c (answer_as (Err BadCapture))
      comes-to-damage g h = meets-damage q c a w.walked (none-ends g) (rw (ne_eqb walk.end 0 (λ z. omega arith)))

  -- at place 0 it has read all records, if they are as many as the trailer says
  module _ {n : ℕ} {walk : Back} (w : Come n walk) (a : Askable q c) (z : walk.end ≡ 0) where
    at-0 : record_ends c walk.end ≡ false
    at-0 = rw z (none-at-0 c)

    pub comes-to-all : n ≡ count c → Answers q c (record { number = none; written = None; records = n })
    comes-to-all e = all_read q c a w.walked at-0 (rw (eq-eqb walk.end 0 z) (eq-eqb n (count c) e))

    pub comes-to-others : (n ≡ count c → ⊥) → Answers q c (answer_as (Err BadCapture))
    comes-to-others h = meets-damage q c a w.walked at-0 (rw (eq-eqb walk.end 0 z) (ne_eqb n (count c) h))
