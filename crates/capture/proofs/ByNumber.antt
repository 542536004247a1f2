-- A frame by its number: the records up to it lead back from the place behind it, so that it begins behind the frames before it, and
-- is a part of the capture.
-- Assumes nothing.
use Rattle.std.specs.Prelude.{Option, Err}
use Rattle.std.specs.Borrow.{Bor}
use mathlib.Core.Path.{◌≡◌, refl, sym, ap, ◌∙◌}
use mathlib.Core.Bool.{Bool, true, false, cond}
use mathlib.Core.List.{List, []}
use Prim.Native.Nat.{ℕ, zero, suc, ◌+◌, ◌-◌, ◌≤◌, ◌<◌}
use native.Mathlib.Numerals.{add-one}
use native.Mathlib.Omega.{arith}
use borrow.Author.Tests.{eqb-true, leb-true, eq-eqb, le-leb, lt-leb}
use lib.Dec.{eqb, leb}
use lib.ListN.{length, get_or, take, drop}
use lib.Seq.{take_all, take-take, get_or-take}
use Rattle.numbers.specs.declared.Refusal.{Refusal}
use Rattle.numbers.specs.Numbers.{none}
use Rattle.numbers.specs.Refusals.{number_of}
use Rattle.numbers.proofs.Refusals.{refusal-met}
use Rattle.numbers.proofs.Tests.{both}
use Rattle.numbers.proofs.Order.{this-first, neither-first, passed, is-refused, is-done}
use Rattle.capture.specs.declared.Back.{Back}
use Rattle.capture.specs.Back.{Steps}
use Rattle.capture.specs.Format.{longest_capture, size, begins, record_ends, frame_before, trailer_begins, count, reaches, capture_fault}
use Rattle.capture.specs.Format.{frames_to, frames}
use Rattle.capture.specs.Recorded.{records, place_behind}
use Rattle.capture.specs.Show.{no_such_frame, show_number, shown_as, shown_frame, shown_place, Shows}
use Rattle.capture.proofs.Walk.{Walking, last-ends, goes_on, frame-length, frames-length, last_frame, front-frames, walk-length}
use Rattle.capture.proofs.Walk.{sound}

-- ---- the frames at the front

-- so many records lead back from a place, and have the first frames of the capture
pub record Front (c : List ℕ) (n end : ℕ) : Type 0 where
  pub walking : Walking c n end
  pub same : frames_to c n end ≡ take n (frames c)

module _ (c : List ℕ) where
  pub frames-counted : length (frames c) ≡ count c
  unfolding frames
  frames-counted = frames-length c (count c) (trailer_begins c)

  -- all records do from the trailer, and have all frames
  pub all-front : capture_fault c ≡ none → Front c (count c) (trailer_begins c)
  unfolding frames
  all-front e =
      let counted = frames-length c (count c) (trailer_begins c) in
      record { walking = (sound c e).walking; same = sym (take_all (count c) (frames_to c (count c) (trailer_begins c)) (omega arith)) }

  -- and one less does from where the last one begins
  pub front-before : (n : ℕ) {end : ℕ} → Front c (suc n) end → Front c n (begins c end)
  front-before n {end} f =
      record {
        walking = goes_on f.walking;
        same = sym (front-frames c n end) ∙ ap (take n) f.same ∙ take-take n (suc n) (frames c) (omega arith);
      }

  one-less-front : (n : ℕ) {end : ℕ} → 0 < n → Front c n end → Front c (n - 1) (begins c end)
  one-less-front zero h f = absurd (omega arith)
  one-less-front (suc n) h f = let less : suc n - 1 ≡ n = omega arith in rw less (front-before n f)

  -- the place is then the one behind those frames
  pub front-place : (n : ℕ) {end : ℕ} → Front c n end → end ≡ place_behind n (frames c)
  front-place n {end} f = sym (walk-length c n end f.walking) ∙ ap (λ (fs : List (List ℕ)). length (records fs)) f.same

  -- so from behind any number of frames as many records lead back
  pub front-behind : capture_fault c ≡ none → (n : ℕ) → n ≤ count c → Front c n (place_behind n (frames c))
  front-behind e n h = fall (count c - n) (count c) (omega arith) (all-front e)
    where
      fall : (k m : ℕ) {end : ℕ} → m ≡ k + n → Front c m end → Front c n (place_behind n (frames c))
      fall zero m s f =
          let here : m ≡ n = omega arith in
          let g = rw here at f in
          rw (← (front-place n g)) g
      fall (suc k) m s f = fall k (m - 1) (omega arith) (one-less-front m (omega arith) f)

-- ---- a walk back from the trailer

-- so many records are left
pub record Fronted (c : List ℕ) (left : ℕ) (walk : Back) : Type 0 where
  pub same : walk.capture.now ≡ c
  pub front : Front c left walk.end

module _ (c : List ℕ) (left : ℕ) (walk : Back) where
  -- all are, at the trailer
  pub fronted_all : capture_fault c ≡ none → walk.capture.now ≡ c → walk.end ≡ trailer_begins c → left ≡ count c → Fronted c left walk
  fronted_all fine same e z = record { same = same; front = rw (e, z) (all-front c fine) }

  module _ (f : Fronted c left walk) where
    pub fronted_place : walk.end ≡ place_behind left (frames c)
    fronted_place = front-place c left f.front

    -- and one less from the next step
    pub fronted_on : (further : Back) (given : Option ℕ) → Steps walk given further → {rest : ℕ} → left ≡ rest + 1 → Fronted c rest further
    fronted_on further given s {rest} e =
        let fewer : left - 1 ≡ rest = omega arith in
        let walking = rw e at f.front.walking in
        let r = both (record_ends c walk.end) (reaches c rest (begins c walk.end)) (rw add-one at walking.reached) in
        let here : further.end ≡ begins c walk.end = s.further ∙ rw (f.same, r.0) in
        record {
          same = ap (λ (b : Bor (List ℕ)). b.now) s.same ∙ f.same;
          front = rw here (rw fewer at (one-less-front c left (omega arith) f.front));
        }

-- ---- one frame

-- the frame that stands behind n others, by the place where its record ends: where that begins, and which bytes it has
pub record Stands (c : List ℕ) (n end : ℕ) : Type 0 where
  pub begin : begins c end ≡ place_behind n (frames c)
  pub same : frame_before c end ≡ get_or (frames c) n []
  pub long : size c end ≡ length (get_or (frames c) n [])
  pub inside : begins c end + size c end ≤ length c

module _ (c : List ℕ) where
  pub front-stands : (n : ℕ) {end : ℕ} → Front c (suc n) end → Stands c n end
  front-stands n {end} f =
      let e = last-ends f.walking in
      let behind = e.behind in
      let all = f.walking.inside in
      let frame =
      sym (last_frame c n end) ∙ ap (λ (fs : List (List ℕ)). get_or fs n []) f.same ∙ get_or-take (suc n) (frames c) n [] (omega arith) in
      record {
        begin = front-place c n (front-before c n f);
        same = frame;
        long = sym (frame-length c end e all) ∙ ap length frame;
        inside = omega arith;
      }

  pub stands : capture_fault c ≡ none → (n : ℕ) → n < count c → Stands c n (place_behind (suc n) (frames c))
  stands e n h = front-stands n (front-behind c e (suc n) h)

-- ---- a frame that is shown

module _ (c : List ℕ) (frame : ℕ) where
  -- the numbers of a bad capture, of a frame below the first and above the last, and of any other
  pub bad-number : (capture_fault c ≡ none → ⊥) → show_number c frame ≡ capture_fault c
  unfolding show_number
  bad-number h = this-first (capture_fault c) _ h

  module _ (fine : capture_fault c ≡ none) where
    pub below-first : frame < 1 → show_number c frame ≡ no_such_frame
    unfolding show_number
    below-first h = rw (eq-eqb (capture_fault c) none fine, lt-leb 1 frame h)

    pub above-last : 1 ≤ frame → count c < frame → show_number c frame ≡ no_such_frame
    unfolding show_number
    above-last h k =
        let counted = frames-counted c in
        rw (eq-eqb (capture_fault c) none fine, le-leb 1 frame h, lt-leb frame (length (frames c)) (omega arith))

    right-number : 1 ≤ frame → frame ≤ count c → show_number c frame ≡ none
    unfolding show_number
    right-number h k =
        let counted = frames-counted c in
        rw (eq-eqb (capture_fault c) none fine, le-leb 1 frame h, le-leb frame (length (frames c)) (omega arith))

  -- what is known of a frame that is not refused
  record Accepted : Type 0 where
    pub fine : capture_fault c ≡ none
    pub some : 1 ≤ frame
    pub few : frame ≤ count c

  accepted : show_number c frame ≡ none → Accepted
  unfolding show_number
  accepted e =
      let counted = frames-counted c in
      let f = neither-first (capture_fault c) _ e in
      let n = both (leb 1 frame) (leb frame (length (frames c))) (passed _ no_such_frame none (omega arith) f.1).0 in
      let few : frame ≤ length (frames c) = leb-true _ _ n.1 in
      record { fine = f.0; some = leb-true _ _ n.0; few = omega arith }

  -- a refusal shows nothing at place 0, and else the frame is shown where it stands
  pub shows-refused : (refusal : Refusal) → number_of refusal ≡ show_number c frame → Shows c frame (shown_as (Err refusal))
  unfolding shown_frame shown_place
  shows-refused refusal e =
      let met : show_number c frame ≡ none → ⊥ = λ z. refusal-met refusal (e ∙ z) in
      record {
        given = e;
        place = sym (is-refused (show_number c frame) (λ number. 0) (place_behind (frame - 1) (frames c)) met);
        len = sym (ap length (is-refused (show_number c frame) (λ number. []) (get_or (frames c) (frame - 1) []) met));
      }

  pub shows-frame : capture_fault c ≡ none → 1 ≤ frame → frame ≤ count c → {end : ℕ} → end ≡ place_behind frame (frames c)
      → Shows c frame (record { number = none; place = begins c end; len = size c end })
  unfolding shown_frame shown_place
  shows-frame fine some few here =
      let met = right-number fine some few in
      let number : suc (frame - 1) ≡ frame = omega arith in
      let s = rw (number, ← here) at (stands c fine (frame - 1) (omega arith)) in
      record {
        given = sym met;
        place = s.begin ∙ sym (is-done (show_number c frame) (λ number. 0) (place_behind (frame - 1) (frames c)) met);
        len = s.long ∙ sym (ap length (is-done (show_number c frame) (λ number. []) (get_or (frames c) (frame - 1) []) met));
      }

-- bytes that stand in a capture from a place on
pub record Part (c : List ℕ) (place : ℕ) (f : List ℕ) : Type 0 where
  pub inside : place + length f ≤ length c
  pub same : f ≡ take (length f) (drop place c)

module _ (c : List ℕ) where
  part-stands : {n end : ℕ} → Stands c n end → Part c (place_behind n (frames c)) (get_or (frames c) n [])
  unfolding frame_before
  part-stands {n} {end} s =
      let inside = s.inside in
      rw (← s.begin) (record { inside = omega (arith, s.long); same = rw (← s.long) (sym s.same) })

  -- what is shown stands at its place
  pub shown-part : (frame : ℕ) → Part c (shown_place c frame) (shown_frame c frame)
  unfolding shown_frame shown_place
  shown-part frame = by (eqb (show_number c frame) none) refl
    where
      by : (b : Bool) → eqb (show_number c frame) none ≡ b
          → Part c (cond b (place_behind (frame - 1) (frames c)) 0) (cond b (get_or (frames c) (frame - 1) []) [])
      by true e =
          let a = accepted c frame (eqb-true _ _ e) in
          let some = a.some in
          let few = a.few in
          part-stands (stands c a.fine (frame - 1) (omega arith))
      by false e = record { inside = omega arith; same = refl }

  -- among the first 65,536 bytes
  pub shown-small : (frame : ℕ) → shown_place c frame + length (shown_frame c frame) ≤ longest_capture
  unfolding shown_frame shown_place
  shown-small frame = by (eqb (show_number c frame) none) refl
    where
      by : (b : Bool) → eqb (show_number c frame) none ≡ b
          → cond b (place_behind (frame - 1) (frames c)) 0 + length (cond b (get_or (frames c) (frame - 1) []) []) ≤ longest_capture
      by true e =
          let a = accepted c frame (eqb-true _ _ e) in
          let some = a.some in
          let few = a.few in
          let part = part-stands (stands c a.fine (frame - 1) (omega arith)) in
          let short = (sound c a.fine).trailer.short in
          omega arith
      by false e = omega arith
