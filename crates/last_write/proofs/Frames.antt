-- The walk back over a well-formed capture stops at the last of its frames that writes to the item, or has read them all.
-- Assumes nothing.
use Rattle.std.specs.Prelude.{Option, Some, None, ℤ}
use mathlib.Core.Path.{◌≡◌, refl, sym, ap, ◌∙◌}
use mathlib.Core.Bool.{Bool, true, false, cond}
use mathlib.Core.List.{List, [], ◌∷◌, ◌++◌}
use Prim.Native.Nat.{ℕ, zero, suc, ◌-◌, ◌≤◌, ◌<◌}
use native.Mathlib.Omega.{arith}
use borrow.Author.Tests.{eqb-true, eq-eqb}
use lib.ListN.{length, length-append}
use Rattle.numbers.proofs.Tests.{contrary, both}
use Rattle.writes.specs.Writes.{is_value, later}
use Rattle.capture.specs.Format.{begins, record_ends, frame_before, reaches, frames_to}
use Rattle.capture.proofs.Walk.{ends, Walking, goes_on}
use Rattle.playback.specs.Written.{wrote, last_write}
use Rattle.playback.proofs.Frames.{last-one-more}
use Rattle.last_write.specs.LastWrite.{Question, place_after, written_before, stops_at}
use Rattle.last_write.specs.Claims.{frames_read}
use Rattle.last_write.proofs.First.{Earliest, one_later}
use Rattle.last_write.proofs.Walked.{none-at-0, by-frame, no_record}

-- ---- a value or nothing

no_value : (g : Option ℤ) → is_value g ≡ false → g ≡ None
no_value (Some v) e = contrary e
no_value None e = refl

value-later : (g before : Option ℤ) → is_value g ≡ true → later g before ≡ g
value-later (Some v) before e = refl
value-later None before e = contrary (sym e)

-- one more, whichever is chosen
one_more : (b : Bool) (m n : ℕ) → cond b (suc m) (suc n) ≡ suc (cond b m n)
one_more true m n = refl
one_more false m n = refl

-- ---- one frame more at the end: it answers, or the frames before it do

module _ (address : ℕ) (f : List ℕ) (i : ℕ) where
  last-answers : (fs : List (List ℕ)) → is_value (wrote address f i) ≡ true → last_write address (fs ++ (f ∷ [])) i ≡ wrote address f i
  last-answers fs v = last-one-more address fs f i ∙ value-later (wrote address f i) (last_write address fs i) v

  last-passed : (fs : List (List ℕ)) → wrote address f i ≡ None → last_write address (fs ++ (f ∷ [])) i ≡ last_write address fs i
  last-passed fs e = last-one-more address fs f i ∙ rw e

  read-answers : (fs : List (List ℕ)) → is_value (wrote address f i) ≡ true → frames_read address (fs ++ (f ∷ [])) i ≡ 1
  read-answers [] v = refl
  read-answers (g ∷ fs) v = rw (last-answers fs v, v) (read-answers fs v)

  read-passed : (fs : List (List ℕ)) → wrote address f i ≡ None
      → frames_read address (fs ++ (f ∷ [])) i ≡ suc (frames_read address fs i)
  read-passed [] e = refl
  read-passed (g ∷ fs) e =
      let long : length (fs ++ (f ∷ [])) ≡ suc (length fs) = length-append fs (f ∷ []) ∙ omega arith in
      rw (last-passed fs e, read-passed fs e, long) (one_more (is_value (last_write address fs i)) (frames_read address fs i) (suc (length fs)))

-- ---- where the walk stops

-- where it does not stop, a record ends that does not write the item
module _ (q : Question) (c : List ℕ) (end : ℕ) where
  pub going_on : stops_at q c end ≡ false → (record_ends c end ≡ true) × (written_before q c end ≡ None)
  going_on = by (record_ends c end) (is_value (written_before q c end)) refl refl
    where
      by : (r v : Bool) → record_ends c end ≡ r → is_value (written_before q c end) ≡ v → stops_at q c end ≡ false
          → (record_ends c end ≡ true) × (written_before q c end ≡ None)
      by false v r e s = contrary (sym (rw r) ∙ s)
      by true true r e s = contrary (sym (rw (r, e)) ∙ s)
      by true false r e s = (r, no_value (written_before q c end) e)

  -- a walk from there stops, after no more records than there are bytes in front of it
  pub record Stopped : Type 0 where
    pub passed : ℕ
    pub few : passed ≤ end
    pub first : Earliest (λ n. stops_at q c (place_after c end n)) passed

pub stops : (q : Question) (c : List ℕ) (limit end : ℕ) → end ≤ limit → Stopped q c end
stops q c zero end h =
    let z : end ≡ 0 = omega arith in
    record { passed = 0; few = omega arith; first = record { holds = rw (z, none-at-0 c); before = λ k l. absurd (omega arith) } }
stops q c (suc limit) end h = by (stops_at q c end) refl (stops q c limit (begins c end))
  where
    by : (b : Bool) → stops_at q c end ≡ b → (begins c end ≤ limit → Stopped q c (begins c end)) → Stopped q c end
    by true s next = record { passed = 0; few = omega arith; first = record { holds = s; before = λ k l. absurd (omega arith) } }
    by false s next =
        let behind = (ends c end (going_on q c end s).0).behind in
        let before = next (omega arith) in
        let few = before.few in
        record { passed = suc before.passed; few = omega arith; first = one_later s before.first }

-- records that are passed over up to place 0 lead back to it
pub leads-back : (c : List ℕ) (n end : ℕ) → ((k : ℕ) → k < n → record_ends c (place_after c end k) ≡ true) → place_after c end n ≡ 0
    → reaches c n end ≡ true
leads-back c zero end passed z = eq-eqb end 0 z
leads-back c (suc n) end passed z =
    rw (passed 0 (omega arith)) (leads-back c n (begins c end) (λ k h. passed (suc k) (omega arith)) z)

-- of so many records that lead back to place 0, what the one writes at which the walk stops is what the last of their frames does that
-- writes at all, and where none does it has passed over them all
module _ (q : Question) (c : List ℕ) where
  abbrev last : ℕ → ℕ → Option ℤ
  last n end = last_write q.address (frames_to c n end) (q.item - 1)

  pub record Agrees (n end passed : ℕ) : Type 0 where
    pub written : written_before q c (place_after c end passed) ≡ last n end
    pub read : cond (is_value (last n end)) (suc passed) passed ≡ frames_read q.address (frames_to c n end) (q.item - 1)
    pub all : is_value (last n end) ≡ false → (place_after c end passed ≡ 0) × (passed ≡ n)

  pub agrees : (n end passed : ℕ) → Walking c n end → Earliest (λ k. stops_at q c (place_after c end k)) passed → Agrees n end passed
  agrees zero end zero w e =
      let z : end ≡ 0 = eqb-true end 0 w.reached in
      record { written = rw z (no_record q c 0 (none-at-0 c)); read = refl; all = λ v. (z, refl) }
  agrees zero end (suc passed) w e =
      let z : end ≡ 0 = eqb-true end 0 w.reached in
      contrary (sym (rw (z, none-at-0 c)) ∙ e.before 0 (omega arith))
  agrees (suc n) end zero w e =
      let r = (both (record_ends c end) (reaches c n (begins c end)) w.reached).0 in
      let there = by-frame q c end r in
      let v : is_value (wrote q.address (frame_before c end) (q.item - 1)) ≡ true = rw (r, there) at e.holds in
      let answers = last-answers q.address (frame_before c end) (q.item - 1) (frames_to c n (begins c end)) v in
      record {
        written = there ∙ sym answers;
        read = rw (answers, v) (sym (read-answers q.address (frame_before c end) (q.item - 1) (frames_to c n (begins c end)) v));
        all = λ none. contrary (sym (ap is_value answers ∙ v) ∙ none);
      }
  agrees (suc n) end (suc passed) w e =
      let on = going_on q c end (e.before 0 (omega arith)) in
      let none = sym (by-frame q c end on.0) ∙ on.1 in
      let before = agrees n (begins c end) passed (goes_on w) (record { holds = e.holds; before = λ k l. e.before (suc k) (omega arith) }) in
      let past = last-passed q.address (frame_before c end) (q.item - 1) (frames_to c n (begins c end)) none in
      record {
        written = before.written ∙ sym past;
        read =
            ap (λ (g : Option ℤ). cond (is_value g) (suc (suc passed)) (suc passed)) past
            ∙ one_more (is_value (last n (begins c end))) (suc passed) passed
            ∙ ap suc before.read
            ∙ sym (read-passed q.address (frame_before c end) (q.item - 1) (frames_to c n (begins c end)) none);
        all = λ v. let a = before.all (ap is_value (sym past) ∙ v) in (a.0, ap suc a.1);
      }
