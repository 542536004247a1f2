-- The walk back over a capture: what a record is that ends at a place, what is known of so many that lead back to place 0, and the
-- frames that they have. A capture that meets no fault is walked from its trailer.
-- Assumes nothing.
use mathlib.Core.Path.{◌≡◌, refl, sym, ap, ◌∙◌}
use Rattle.std.specs.Prelude.{Option, Some, None}
use Rattle.std.specs.Borrow.{Bor}
use Rattle.std.specs.Option.{is_some}
use mathlib.Core.Bool.{Bool, true, false, cond, ◌&&◌}
use mathlib.Core.List.{List, [], ◌∷◌, ◌++◌, append_assoc}
use Prim.Native.Nat.{ℕ, zero, suc, ◌+◌, ◌-◌, ◌≤◌, ◌<◌}
use native.Mathlib.Omega.{arith}
use borrow.Author.Tests.{eqb-true, leb-true, le-leb, lt-leb}
use lib.Dec.{eqb, leb}
use lib.ListN.{length, get_or, take, drop, length-append, length-drop}
use lib.Seq.{length-take-le, take_at, get_or_at}
use Rattle.numbers.specs.Numbers.{none, unless, first_met}
use Rattle.numbers.proofs.Tests.{both}
use Rattle.numbers.proofs.Order.{last-met, test-held}
use Rattle.registers.specs.Register.{high_first}
use Rattle.capture.specs.Format.{bad_capture, longest_capture, longest_frame, size_bytes, size, begins, record_ends, frame_before}
use Rattle.capture.specs.Format.{trailer_length, trailer_begins, count, last_place, reaches, allowed_length, trailer_points, trailer_right}
use Rattle.capture.specs.Format.{well_formed, capture_fault, frames_to}
use Rattle.capture.specs.Recorded.{records, place_behind}
use Rattle.capture.specs.declared.Back.{Back}
use Rattle.capture.specs.Back.{Steps}

-- ---- one record

-- what a record is that ends in front of a place
pub record Ends (c : List ℕ) (end : ℕ) : Type 0 where
  pub some : 1 ≤ size c end
  pub few : size c end ≤ 256
  pub behind : begins c end + size c end + 2 ≡ end

module _ (c : List ℕ) (end : ℕ) where
  pub ends : record_ends c end ≡ true → Ends c end
  unfolding record_ends begins
  ends e =
      let some = leb 1 (size c end) in
      let few = leb (size c end) longest_frame in
      let b = both (some && few) (leb (size c end + size_bytes) end) e in
      let s = both some few b.0 in
      let room : size c end + 2 ≤ end = leb-true _ _ b.1 in
      record { some = leb-true _ _ s.0; few = leb-true _ _ s.1; behind = omega arith }

  -- it begins in front of there
  pub nearer : record_ends c end ≡ true → begins c end < end
  nearer e = let behind = (ends e).behind in omega arith

  -- its frame is as long as it says
  pub frame-length : Ends c end → end ≤ length c → length (frame_before c end) ≡ size c end
  unfolding frame_before
  frame-length e inside =
      let behind = e.behind in
      length-take-le (size c end) (drop (begins c end) c) (simp length-drop (omega arith))

-- ---- so many of them

-- so many records lead back from a place in the capture
pub record Walking (c : List ℕ) (n end : ℕ) : Type 0 where
  pub inside : end ≤ length c
  pub reached : reaches c n end ≡ true

module _ {c : List ℕ} {end : ℕ} where
  pub last-ends : {n : ℕ} → Walking c (suc n) end → Ends c end
  last-ends {n} w = ends c end (both (record_ends c end) (reaches c n (begins c end)) w.reached).0

  -- in front of the last there is one less
  pub goes_on : {n : ℕ} → Walking c (suc n) end → Walking c n (begins c end)
  goes_on {n} w =
      let behind = (last-ends w).behind in
      let all = w.inside in
      record { inside = omega arith; reached = (both (record_ends c end) (reaches c n (begins c end)) w.reached).1 }

-- ---- a walk back that is to reach place 0, as it is told of the place where it began

-- so many records are left
pub record Leads (c : List ℕ) (records place left : ℕ) (walk : Back) : Type 0 where
  pub same : walk.capture.now ≡ c
  pub leads : reaches c left walk.end ≡ reaches c records place

module _ (c : List ℕ) (records place left : ℕ) (walk : Back) (l : Leads c records place left walk) where
  -- with none left it is to be there
  pub leads_here : left ≡ 0 → reaches c records place ≡ eqb walk.end 0
  leads_here z = sym l.leads ∙ ap (λ (n : ℕ). reaches c n walk.end) z

  module _ (further : Back) (given : Option ℕ) (s : Steps walk given further) where
    ended : is_some given ≡ record_ends c walk.end
    ended = ap is_some s.place ∙ by (record_ends walk.capture.now walk.end) ∙ ap (λ (d : List ℕ). record_ends d walk.end) l.same
      where
        by : (b : Bool) → is_some (cond b (Some walk.end) None) ≡ b
        by true = refl
        by false = refl

    one-less : 0 < left → reaches c left walk.end ≡ (record_ends c walk.end && reaches c (left - 1) (begins c walk.end))
    one-less h = let more : left ≡ suc (left - 1) = omega arith in ap (λ (n : ℕ). reaches c n walk.end) more

    -- it leads nowhere where no record ends
    pub leads_nowhere : 0 < left → is_some given ≡ false → reaches c records place ≡ false
    leads_nowhere h n = sym l.leads ∙ one-less h ∙ rw (sym ended ∙ n)

    -- and else one less is left from the next
    pub leads_on : {rest : ℕ} → left ≡ rest + 1 → is_some given ≡ true → Leads c records place rest further
    leads_on {rest} e n =
        let r = sym ended ∙ n in
        let less : left - 1 ≡ rest = omega arith in
        let here : further.end ≡ begins c walk.end = s.further ∙ rw (l.same, r) in
        let one : reaches c left walk.end ≡ reaches c rest (begins c walk.end) = one-less (omega arith) ∙ rw (r, less) in
        record {
          same = ap (λ (b : Bor (List ℕ)). b.now) s.same ∙ l.same;
          leads = rw here (sym one ∙ l.leads);
        }

-- ---- their frames

module _ (c : List ℕ) where
  pub frames-length : (n end : ℕ) → length (frames_to c n end) ≡ n
  frames-length zero end = refl
  frames-length (suc n) end =
      let before = frames-length n (begins c end) in
      length-append (frames_to c n (begins c end)) (frame_before c end ∷ []) ∙ omega arith

  -- the frame of the last record is the last, and those before it are the front
  pub last_frame : (n end : ℕ) → get_or (frames_to c (suc n) end) n [] ≡ frame_before c end
  last_frame n end = get_or_at (frames_to c n (begins c end)) (frame_before c end) [] [] n (frames-length n (begins c end))

  pub front-frames : (n end : ℕ) → take n (frames_to c (suc n) end) ≡ frames_to c n (begins c end)
  front-frames n end = take_at (frames_to c n (begins c end)) (frame_before c end ∷ []) n (frames-length n (begins c end))

-- records of frames, and of frames behind them
pub records-append : (fs gs : List (List ℕ)) → records (fs ++ gs) ≡ records fs ++ records gs
records-append [] gs = refl
records-append (f ∷ fs) gs =
    ap (λ (l : List ℕ). (f ++ high_first (length f)) ++ l) (records-append fs gs)
    ∙ sym (append_assoc (f ++ high_first (length f)) (records fs) (records gs))

-- the record of one frame
record-length : (f : List ℕ) → length (records (f ∷ [])) ≡ length f + 2
record-length f = simp length-append (omega arith)

module _ (c : List ℕ) where
  -- a walk that leads back to place 0 has records for all bytes in front of its place
  pub walk-length : (n end : ℕ) → Walking c n end → length (records (frames_to c n end)) ≡ end
  walk-length zero end w = sym (eqb-true end 0 w.reached)
  walk-length (suc n) end w =
      let e = last-ends w in
      let before = walk-length n (begins c end) (goes_on w) in
      let one = record-length (frame_before c end) in
      let long = frame-length c end e w.inside in
      let behind = e.behind in
      ap length (records-append (frames_to c n (begins c end)) (frame_before c end ∷ []))
      ∙ length-append (records (frames_to c n (begins c end))) (records (frame_before c end ∷ []))
      ∙ omega arith

  -- so its last record begins behind the frames before it, and at place 0 where there is none
  pub begins-behind : (n end : ℕ) → Walking c n end → begins c end ≡ place_behind (n - 1) (frames_to c n end)
  unfolding begins
  begins-behind zero end w =
      let e = eqb-true end 0 w.reached in
      omega arith
  begins-behind (suc n) end w =
      let less : suc n - 1 ≡ n = omega arith in
      rw (less, front-frames c n end) (sym (walk-length n (begins c end) (goes_on w)))

-- ---- a capture and its fault

module _ (c : List ℕ) where
  -- where a walk back can begin: the rules of a length one by one, and then the trailer's place
  pub too_short : length c < trailer_length → trailer_right c ≡ false
  unfolding trailer_right
  too_short h = rw (lt-leb trailer_length (length c) h)

  pub too_long : trailer_length ≤ length c → longest_capture < length c → trailer_right c ≡ false
  unfolding trailer_right
  too_long h k = rw (le-leb trailer_length (length c) h, lt-leb (length c) longest_capture k)

  pub right-length : trailer_length ≤ length c → length c ≤ longest_capture → trailer_right c ≡ trailer_points c
  unfolding trailer_right
  right-length h k = rw (le-leb trailer_length (length c) h, le-leb (length c) longest_capture k)

  -- what is known there
  pub record Begun : Type 0 where
    pub long : 6 ≤ length c
    pub short : length c ≤ longest_capture
    pub last : last_place c ≡ begins c (trailer_begins c)

  pub begun : trailer_right c ≡ true → Begun
  unfolding trailer_right
  begun e =
      let b = both (allowed_length c) (trailer_points c) e in
      let lengths = both (leb trailer_length (length c)) (leb (length c) longest_capture) b.0 in
      record { long = leb-true _ _ lengths.0; short = leb-true _ _ lengths.1; last = eqb-true _ _ b.1 }

  -- a capture has no fault exactly when a walk back can begin and reaches place 0 after as many records as the trailer says
  pub fault-reached : capture_fault c ≡ unless (trailer_right c && reaches c (count c) (trailer_begins c)) bad_capture
  unfolding capture_fault well_formed trailer_right
  fault-reached = by (allowed_length c) (trailer_points c)
    where
      by : (allowed points : Bool)
          → first_met
          (unless allowed bad_capture ∷ unless (points && reaches c (count c) (trailer_begins c)) bad_capture ∷ [])
          ≡ unless ((allowed && points) && reaches c (count c) (trailer_begins c)) bad_capture
      by true points = last-met _
      by false points = refl

  -- what a capture is that meets none
  pub record Sound : Type 0 where
    pub right : trailer_right c ≡ true
    pub trailer : Begun
    pub walking : Walking c (count c) (trailer_begins c)

  pub sound : capture_fault c ≡ none → Sound
  unfolding trailer_begins
  sound e =
      let held = test-held (trailer_right c && reaches c (count c) (trailer_begins c)) bad_capture (omega arith) (sym fault-reached ∙ e) in
      let b = both (trailer_right c) (reaches c (count c) (trailer_begins c)) held in
      record { right = b.0; trailer = begun b.0; walking = record { inside = omega arith; reached = b.1 } }
