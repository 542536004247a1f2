-- Two captures that have the same records from the answering one on: the walk back over the one is that over the other.
-- Assumes nothing.
use Rattle.std.specs.Prelude.{Option, ℤ}
use mathlib.Core.Path.{◌≡◌, sym, ap, ◌∙◌}
use mathlib.Core.Bool.{true}
use mathlib.Core.List.{List}
use Prim.Native.Nat.{ℕ, zero, suc, ◌+◌, ◌-◌, ◌≤◌, ◌<◌}
use native.Mathlib.Numerals.{add-one}
use native.Mathlib.Omega.{arith}
use borrow.Author.Tests.{le-leb}
use lib.ListN.{length, get_or, take, drop, length-take, length-drop}
use lib.Seq.{get_or-take, get_or-drop, drop-drop, ext_get_or}
use Rattle.numbers.specs.Numbers.{none}
use Rattle.writes.specs.Writes.{is_value}
use Rattle.capture.specs.Format.{longest_frame, two_at, size, begins, record_ends, frame_before, trailer_begins}
use Rattle.capture.proofs.Walk.{ends}
use Rattle.last_write.specs.LastWrite.{Question, place_after, written_before, stops_at, Answers, Askable}
use Rattle.last_write.specs.Claims.{records_from}
use Rattle.last_write.proofs.First.{Earliest}
use Rattle.last_write.proofs.Walked.{one_further, by-frame, Walked, walk-starts, walk-on, frame-answers}
use Rattle.last_write.proofs.Frames.{going_on}

-- a part that ends in front of a cut
part_cut : (s m t : ℕ) (l : List ℕ) → m + s ≤ t → take s (drop m (take t l)) ≡ take s (drop m l)
part_cut s m t l h =
    ext_get_or 0 _ _ (simp (length-take, length-drop) (omega arith))
    (λ i k.
    let inside : i < s = omega (arith, length-take s (drop m (take t l))) in
    let before : m + i < t = omega arith in
    rw (get_or-take s (drop m (take t l)) i 0, get_or-take s (drop m l) i 0, get_or-drop m (take t l) i 0, get_or-drop m l i 0, get_or-take t l (m + i) 0))

-- ---- what is read of the records from a place on

module _ (c : List ℕ) (p : ℕ) where
  records-length : length (records_from p c) ≡ trailer_begins c - p
  unfolding trailer_begins
  records-length = simp (length-drop, length-take) (omega arith)

  byte-from : (j : ℕ) → p + j < trailer_begins c → get_or c (p + j) 0 ≡ get_or (records_from p c) j 0
  byte-from j h = rw (get_or-drop p (take (trailer_begins c) c) j 0, get_or-take (trailer_begins c) c (p + j) 0)

  size-from : (x : ℕ) → 2 ≤ x → p + x ≤ trailer_begins c → size c (p + x) ≡ two_at (records_from p c) (x - 2)
  unfolding size
  size-from x h k =
      let at : p + x - 2 ≡ p + (x - 2) = omega arith in
      let next : p + (x - 2) + 1 ≡ p + (x - 2 + 1) = omega arith in
      rw (at, next, byte-from (x - 2) (omega arith), byte-from (x - 2 + 1) (omega arith))

  frame-from : (x : ℕ) → size c (p + x) + 2 ≤ x → p + x ≤ trailer_begins c
      → frame_before c (p + x) ≡ take (size c (p + x)) (drop (x - (size c (p + x) + 2)) (records_from p c))
  unfolding frame_before begins
  frame-from x h k =
      let s = size c (p + x) in
      let y = x - (s + 2) in
      let at : p + x - (s + 2) ≡ p + y = omega arith in
      rw (at, drop-drop y p (take (trailer_begins c) c)) (sym (part_cut s (p + y) (trailer_begins c) c (omega arith)))

-- a walk only goes toward the front
module _ (c : List ℕ) where
  falls-from : (n end : ℕ) → place_after c end n ≤ end
  unfolding begins
  falls-from zero end = omega arith
  falls-from (suc n) end = let next = falls-from n (begins c end) in omega arith

  falls : (k n end : ℕ) → k ≤ n → place_after c end n ≤ place_after c end k
  falls zero n end h = falls-from n end
  falls (suc k) zero end h = absurd (omega arith)
  falls (suc k) (suc n) end h = falls k n (begins c end) (omega arith)

-- ---- the same records in two captures, from a place on in each

module _ (c d : List ℕ) (p o : ℕ) (same : records_from o d ≡ records_from p c) where
  -- the records that end in front of these places are alike
  record Alike (x : ℕ) : Type 0 where
    pub next : ℕ
    pub less : next ≤ x
    pub here : begins c (p + x) ≡ p + next
    pub there : begins d (o + x) ≡ o + next
    pub ended : record_ends d (o + x) ≡ true
    pub frame : frame_before d (o + x) ≡ frame_before c (p + x)

  alike : (x : ℕ) → p + x ≤ trailer_begins c → o + x ≤ trailer_begins d → record_ends c (p + x) ≡ true → p ≤ begins c (p + x) → Alike x
  unfolding record_ends begins
  alike x h k r inside =
      let e = ends c (p + x) r in
      let some = e.some in
      let few = e.few in
      let behind = e.behind in
      let s = size c (p + x) in
      let size_same : size d (o + x) ≡ size c (p + x) =
      size-from d o x (omega arith) k ∙ ap (λ (l : List ℕ). two_at l (x - 2)) same ∙ sym (size-from c p x (omega arith) h) in
      record {
        next = x - (s + 2);
        less = omega arith;
        here = omega arith;
        there = omega arith;
        ended = rw (size_same, le-leb 1 s some, le-leb s longest_frame few, le-leb (s + 2) (o + x) (omega arith));
        frame =
            frame-from d o x (omega arith) k
            ∙ rw (size_same, same)
            (sym (frame-from c p x (omega arith) h));
      }

-- ---- the walk over both, where one stops at a record that answers

module _ (q : Question) (c d : List ℕ) (n o : ℕ) (first : Earliest (λ k. stops_at q c (place_after c (trailer_begins c) k)) n)
    (ended : record_ends c (place_after c (trailer_begins c) n) ≡ true)
    (same : records_from o d ≡ records_from (place_after c (trailer_begins c) (suc n)) c) where
  -- where the answering record begins in the one capture, and how many bytes there are from there to the trailer in both
  abbrev p : ℕ
  p = place_after c (trailer_begins c) (suc n)

  abbrev rest : ℕ
  rest = trailer_begins c - p

  before : p < trailer_begins c
  before =
      let behind = (ends c (place_after c (trailer_begins c) n) ended).behind in
      let stop = falls-from c n (trailer_begins c) in
      let begin = one_further c n (trailer_begins c) in
      omega arith

  rests : o + rest ≡ trailer_begins d
  rests =
      let long : trailer_begins d - o ≡ rest = sym (records-length d o) ∙ ap length same ∙ records-length c p in
      let some = before in
      omega arith

  -- after so many records both walks are as far in front of their trailers
  record Beside (k : ℕ) : Type 0 where
    pub x : ℕ
    pub here : place_after c (trailer_begins c) k ≡ p + x
    pub inside : p + x ≤ trailer_begins c
    pub there : Walked q d k (o + x)

  -- and the next records are alike
  next : {k : ℕ} → k ≤ n → (b : Beside k) → record_ends c (place_after c (trailer_begins c) k) ≡ true → Alike c d p o same b.x
  next {k} h b r =
      let few = b.there.few in
      let begin = one_further c k (trailer_begins c) ∙ ap (begins c) b.here in
      let falling = falls c (suc k) (suc n) (trailer_begins c) (omega arith) in
      alike c d p o same b.x b.inside (omega arith) (rw b.here at r) (omega arith)

  beside : (k : ℕ) → k ≤ n → Beside k
  beside zero h = record { x = rest; here = omega (arith, before); inside = omega (arith, before); there = walk-starts q d rests }
  beside (suc k) h =
      let b = beside k (omega arith) in
      let on = going_on q c (place_after c (trailer_begins c) k) (first.before k (omega arith)) in
      let a = next (omega arith) b on.0 in
      let nothing = rw b.here at (sym (by-frame q c (place_after c (trailer_begins c) k) on.0) ∙ on.1) in
      let inside = b.inside in
      let less = a.less in
      record {
        x = a.next;
        here = one_further c k (trailer_begins c) ∙ ap (begins c) b.here ∙ a.here;
        inside = omega arith;
        there = rw (add-one k) at (walk-on q d b.there (sym a.there) a.ended (rw a.frame nothing));
      }

  -- so the other walk gets the same answer, after as many records
  pub answered-alike : Askable q d → {g : Option ℤ} → g ≡ written_before q c (place_after c (trailer_begins c) n) → is_value g ≡ true
      → Answers q d (record { number = none; written = g; records = n + 1 })
  answered-alike a e v =
      let b = beside n (omega arith) in
      let l = next (omega arith) b ended in
      let written = rw b.here at (e ∙ by-frame q c (place_after c (trailer_begins c) n) ended) in
      frame-answers q d a b.there l.ended (rw l.frame written) v
