-- What is recorded is read back by the walk, and the bytes of a walk are those that its frames are recorded as.
-- Assumes nothing.
use mathlib.Core.Path.{◌≡◌, refl, sym, ap, ap₂, ◌∙◌}
use mathlib.Core.Bool.{true, ◌&&◌, and_assoc}
use mathlib.Core.List.{List, [], ◌∷◌, ◌++◌, append-nil, append_assoc}
use Prim.Native.Nat.{ℕ, zero, suc, ◌+◌, ◌-◌, ◌*◌, ◌/◌, ◌%◌, ◌≤◌, ◌<◌}
use native.Mathlib.Numerals.{add-one}
use native.Mathlib.Omega.{arith}
use borrow.Author.Tests.{eqb-true, leb-true, le-leb}
use lib.Dec.{leb}
use lib.ListN.{length, get_or, take, drop, length-append, drop_of_length-le}
use lib.Seq.{take-append_seam, drop-append_seam, get_or-append_seam, get_or-append-add, drop-cons, drop-drop, take-add, append_snoc}
use Rattle.numbers.proofs.Tests.{both}
use Rattle.registers.specs.Register.{high_first}
use Rattle.capture.specs.Format.{longest_frame, two_at, size, begins, record_ends, frame_before, trailer_begins, count, last_place}
use Rattle.capture.specs.Format.{reaches, frames_to}
use Rattle.capture.specs.Recorded.{four_high_first, recordable, records, place_behind, recorded}
use Rattle.capture.proofs.Walk.{Ends, Walking, last-ends, goes_on, frame-length, records-append}

-- ---- frames behind others

-- what holds of an empty list, and of each with one more behind it where it holds of that list, holds of all
from_last : {A : Type 0} (P : List A → Type 0) → P [] → ((xs : List A) (x : A) → P xs → P (xs ++ (x ∷ []))) → (xs : List A) → P xs
from_last {A} P none more = behind [] none
  where
    behind : (front : List A) → P front → (xs : List A) → P (front ++ xs)
    behind front p [] = rw append-nil p
    behind front p (x ∷ xs) = rw (append_snoc front x xs) at (behind (front ++ (x ∷ [])) (more front x p) xs)

recordable-append : (fs gs : List (List ℕ)) → recordable (fs ++ gs) ≡ (recordable fs && recordable gs)
recordable-append [] gs = refl
recordable-append (f ∷ fs) gs = rw (recordable-append fs gs) (simp and_assoc)

-- ---- what is recorded is read back

-- a number of two bytes
two-read : {c : List ℕ} (p s : List ℕ) (n : ℕ) {i : ℕ} → c ≡ p ++ (high_first n ++ s) → i ≡ length p → two_at c i ≡ n
two-read p s n e here =
    rw (e, here, get_or-append_seam p (n / 256) (n % 256 ∷ s) 0, get_or-append-add p (n / 256 ∷ n % 256 ∷ s) 1 0) (omega arith)

-- one record, behind some bytes and before others
module _ (p f s : List ℕ) where
  abbrev around : List ℕ
  around = p ++ (f ++ (high_first (length f) ++ s))

  abbrev behind : ℕ
  behind = length p + length f + 2

  size-read : size around behind ≡ length f
  unfolding size
  size-read =
      two-read (p ++ f) s (length f) (sym (append_assoc p f (high_first (length f) ++ s))) (simp length-append (omega arith))

  begins-read : begins around behind ≡ length p
  unfolding begins
  begins-read = rw size-read (omega arith)

  frame-read : frame_before around behind ≡ f
  unfolding frame_before
  frame-read =
      rw (size-read, begins-read, drop-append_seam p (f ++ (high_first (length f) ++ s))) (take-append_seam f (high_first (length f) ++ s))

  ends_read : 1 ≤ length f → length f ≤ 256 → record_ends around behind ≡ true
  unfolding record_ends
  ends_read some few =
      rw (size-read, le-leb 1 (length f) some, le-leb (length f) longest_frame few, le-leb (length f + 2) behind (omega arith))

-- the records at the front of a capture have their frames, and lead back to place 0 where each can be held
pub record Reads (c : List ℕ) (fs : List (List ℕ)) : Type 0 where
  pub reached : recordable fs ≡ true → reaches c (length fs) (length (records fs)) ≡ true
  pub same : frames_to c (length fs) (length (records fs)) ≡ fs

-- from the last one on, whatever stands behind
reads-back : (fs : List (List ℕ)) (s : List ℕ) → Reads (records fs ++ s) fs
reads-back =
    from_last (λ (fs : List (List ℕ)). (s : List ℕ) → Reads (records fs ++ s) fs) (λ s. record { reached = λ r. refl; same = refl }) one_more
  where
    one_more : (fs : List (List ℕ)) (f : List ℕ) → ((s : List ℕ) → Reads (records fs ++ s) fs) → (s : List ℕ)
        → Reads (records (fs ++ (f ∷ [])) ++ s) (fs ++ (f ∷ []))
    one_more fs f before s =
        let reads = before (f ++ (high_first (length f) ++ s)) in
        let whole : records (fs ++ (f ∷ [])) ++ s ≡ around (records fs) f s = simp (records-append, append_assoc) in
        let many : length (fs ++ (f ∷ [])) ≡ suc (length fs) = simp length-append (omega arith) in
        let long : length (records (fs ++ (f ∷ []))) ≡ behind (records fs) f s =
        ap length (records-append fs (f ∷ [])) ∙ simp length-append (omega arith) in
        let begin = begins-read (records fs) f s in
        rw whole
        (record {
          reached = λ r.
              let p = both (recordable fs) (recordable (f ∷ [])) (sym (recordable-append fs (f ∷ [])) ∙ r) in
              let q = (both (leb 1 (length f) && leb (length f) longest_frame) true p.1).0 in
              let t = both (leb 1 (length f)) (leb (length f) longest_frame) q in
              let ended = ends_read (records fs) f s (leb-true _ _ t.0) (leb-true _ _ t.1) in
              rw (many, long, ended, begin) (reads.reached p.0);
          same = rw (many, long, begin, frame-read (records fs) f s) (ap (λ (l : List (List ℕ)). l ++ (f ∷ [])) reads.same);
        })

-- so are all, and what the trailer behind them says
module _ (fs : List (List ℕ)) where
  pub recorded-reads : Reads (recorded fs) fs
  unfolding recorded
  recorded-reads = reads-back fs _

  pub recorded-length : length (recorded fs) ≡ length (records fs) + 6
  unfolding recorded
  recorded-length = length-append (records fs) _

  pub recorded-place : trailer_begins (recorded fs) ≡ length (records fs)
  unfolding trailer_begins
  recorded-place = rw recorded-length (omega arith)

  pub recorded-count : count (recorded fs) ≡ length fs
  unfolding count recorded
  recorded-count = two-read (records fs) _ (length fs) refl recorded-place

  pub recorded-last : last_place (recorded fs) ≡ place_behind (length fs - 1) fs
  unfolding last_place recorded
  recorded-last =
      let place = place_behind (length fs - 1) fs in
      let high = place / 0x10000 in
      let low = place % 0x10000 in
      let counted = records fs ++ high_first (length fs) in
      let here = recorded-place in
      let behind : length counted ≡ length (records fs) + 2 = length-append (records fs) (high_first (length fs)) in
      let further : length (counted ++ high_first high) ≡ length (records fs) + 4 = length-append counted (high_first high) ∙ omega arith in
      let all : records fs ++ (high_first (length fs) ++ four_high_first place) ≡ counted ++ (high_first high ++ high_first low) =
      sym (append_assoc (records fs) (high_first (length fs)) (four_high_first place)) in
      ap₂ (λ (h l : ℕ). h * 0x10000 + l)
      (two-read counted (high_first low) high all (omega arith))
      (two-read (counted ++ high_first high) [] low (all ∙ sym (append_assoc counted (high_first high) (high_first low))) (omega arith))
      ∙ omega arith

-- ---- the bytes of a walk

module _ (c : List ℕ) (bytes : (i : ℕ) → get_or c i 0 < 256) where
  -- two bytes are those of their number
  two_bytes : (i : ℕ) → i + 2 ≤ length c → drop i c ≡ high_first (two_at c i) ++ drop (i + 2) c
  two_bytes i h =
      let high = bytes i in
      let low = bytes (i + 1) in
      let same = ap (λ (k : ℕ). get_or c k 0) (add-one i) in
      let next : i + 2 ≡ suc (suc i) = omega arith in
      rw (next, drop-cons c i 0 (omega arith), drop-cons c (suc i) 0 (omega arith))
      (ap₂ (λ (x y : ℕ). x ∷ y ∷ drop (suc (suc i)) c) (omega arith) (omega arith))

  -- a record has the bytes of its frame, and then those of its size
  record-bytes : (end : ℕ) → Ends c end → end ≤ length c
      → take (size c end + 2) (drop (begins c end) c) ≡ records (frame_before c end ∷ [])
  unfolding size frame_before
  record-bytes end e inside =
      let behind = e.behind in
      let here : begins c end + size c end ≡ end - 2 = omega arith in
      let two : take 2 (drop (size c end) (drop (begins c end) c)) ≡ high_first (length (frame_before c end)) =
      ap (take 2) (drop-drop (size c end) (begins c end) c ∙ two_bytes (begins c end + size c end) (omega arith))
      ∙ ap high_first (ap (two_at c) here ∙ sym (frame-length c end e inside)) in
      take-add (size c end) 2 (drop (begins c end) c) ∙ ap (λ (l : List ℕ). frame_before c end ++ l) two ∙ sym (append-nil _)

  -- so the records of a walk have all bytes in front of its place, and those behind the place are the trailer's
  pub walk-bytes : (n end : ℕ) → Walking c n end → records (frames_to c n end) ≡ take end c
  walk-bytes zero end w = let none = eqb-true end 0 w.reached in rw none
  walk-bytes (suc n) end w =
      let e = last-ends w in
      let whole : begins c end + (size c end + 2) ≡ end = omega (arith, e.behind) in
      records-append (frames_to c n (begins c end)) (frame_before c end ∷ [])
      ∙ ap₂ (λ (x y : List ℕ). x ++ y) (walk-bytes n (begins c end) (goes_on w)) (sym (record-bytes end e w.inside))
      ∙ sym (take-add (begins c end) (size c end + 2) c)
      ∙ ap (λ (k : ℕ). take k c) whole

  pub trailer-bytes : 6 ≤ length c → high_first (count c) ++ four_high_first (last_place c) ≡ drop (trailer_begins c) c
  unfolding count last_place trailer_begins
  trailer-bytes h =
      let place = trailer_begins c in
      let high = two_at c (place + 2) in
      let low = two_at c (place + 2 + 2) in
      let above = bytes (place + 2 + 2) in
      let below = bytes (place + 2 + 2 + 1) in
      let four : four_high_first (high * 0x10000 + low) ≡ high_first high ++ high_first low =
      ap₂ (λ (x y : ℕ). high_first x ++ high_first y) (omega arith) (omega arith) in
      ap (λ (l : List ℕ). high_first (two_at c place) ++ l)
      (four
      ∙ ap (λ (l : List ℕ). high_first high ++ (high_first low ++ l)) (sym (drop_of_length-le c {i = place + 2 + 2 + 2} (omega arith)))
      ∙ ap (λ (l : List ℕ). high_first high ++ l) (sym (two_bytes (place + 2 + 2) (omega arith)))
      ∙ sym (two_bytes (place + 2) (omega arith)))
      ∙ sym (two_bytes place (omega arith))

-- the frames of a walk can be recorded
pub walk-recordable : (c : List ℕ) (n end : ℕ) → Walking c n end → recordable (frames_to c n end) ≡ true
walk-recordable c zero end w = refl
walk-recordable c (suc n) end w =
    let e = last-ends w in
    let long = frame-length c end e w.inside in
    rw (
      recordable-append (frames_to c n (begins c end)) (frame_before c end ∷ []),
      walk-recordable c n (begins c end) (goes_on w),
      long,
      le-leb 1 (size c end) e.some,
      le-leb (size c end) longest_frame e.few,
    )
