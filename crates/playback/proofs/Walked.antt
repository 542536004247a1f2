-- Items that are settled on the walk back: each by a message, and all by the frames of a capture.
-- Assumes nothing.
use Rattle.std.specs.Prelude.{Option, Some, None}
use Rattle.std.specs.Borrow.{Bor}
use mathlib.Core.Path.{◌≡◌, refl, sym, ap, ◌∙◌}
use mathlib.Core.Bool.{Bool, true, false, cond}
use mathlib.Core.List.{List}
use Prim.Native.Nat.{ℕ, zero, suc, ◌+◌, ◌≤◌, ◌<◌}
use native.Mathlib.Omega.{arith}
use borrow.Author.Tests.{eqb-true, eqb-false}
use lib.Dec.{eqb}
use lib.IntN.{ℤ}
use lib.ListN.{length, get_or, set, length-set}
use lib.Seq.{get_or-set_same, get_or-set_other}
use Rattle.numbers.specs.Numbers.{none}
use Rattle.numbers.proofs.Tests.{both}
use Rattle.items.specs.ItemList.{items}
use Rattle.writes.specs.Writes.{later, over}
use Rattle.writes.proofs.Stored.{later-none, later-assoc}
use Rattle.capture.specs.declared.Back.{Back}
use Rattle.capture.specs.Back.{Steps}
use Rattle.capture.specs.Format.{begins, record_ends, frame_before, trailer_begins, count, reaches, capture_fault, frames_to, frames}
use Rattle.capture.proofs.Walk.{nearer, Walking, goes_on, sound}
use Rattle.playback.specs.Written.{wrote, last_write}
use Rattle.playback.specs.Settling.{known_of, Settles, AllKnown, WrittenOver, LastWrites}
use Rattle.playback.proofs.Frames.{last-one-more}

-- ---- a list whose elements are gone over one at a time

-- those in front of a place have become what they are to become, and the others stayed
pub record Come {A : Type 0} (none : A) (becomes : ℕ → A → A) (start : List A) (n : ℕ) (now : List A) : Type 0 where
  pub long : length now ≡ length start
  pub before : (i : ℕ) → i < n → get_or now i none ≡ becomes i (get_or start i none)
  pub behind : (i : ℕ) → n ≤ i → get_or now i none ≡ get_or start i none

module _ {A : Type 0} {none : A} {becomes : ℕ → A → A} {start : List A} where
  pub come_starts : Come none becomes start 0 start
  come_starts = record { long = refl; before = λ i h. absurd (omega arith); behind = λ i h. refl }

  module _ {n : ℕ} {now : List A} (c : Come none becomes start n now) where
    -- the element there became what it is to become
    pub come-on : {x : A} → n < length start → x ≡ becomes n (get_or now n none) → Come none becomes start (n + 1) (set now n x)
    come-on {x} h e =
        record {
          long = length-set now n x ∙ c.long;
          before = λ i l. by i (eqb i n) refl l;
          behind = λ i l. get_or-set_other now n i x none (λ z. omega arith) ∙ c.behind i (omega arith);
        }
      where
        by : (i : ℕ) (b : Bool) → eqb i n ≡ b → i < n + 1 → get_or (set now n x) i none ≡ becomes i (get_or start i none)
        by i true q l =
            let here : i ≡ n = eqb-true i n q in
            rw (here, get_or-set_same now n x none (omega (arith, c.long))) (e ∙ ap (becomes n) (c.behind n (omega arith)))
        by i false q l =
            let elsewhere = eqb-false i n q in
            get_or-set_other now n i x none elsewhere ∙ c.before i (nearer l elsewhere)
          where
            nearer : i < n + 1 → (i ≡ n → ⊥) → i < n
            nearer h e = omega arith

-- items are settled by what they are given
abbrev pub settled_by : (ℕ → Option ℤ) → ℕ → Option ℤ → Option ℤ
settled_by gives i k = later k (gives i)

-- entries become what is known of their items
abbrev pub known_over : List (Option ℤ) → ℕ → ℤ → ℤ
known_over known i v = over v (known_of known i)

-- the next item stays where it is known, and else is what it is given
pub settles_next : {gives : ℕ → Option ℤ} {start now : List (Option ℤ)} {n : ℕ} {x : Option ℤ} → Come None (settled_by gives) start n now
    → n < length start → ((v : ℤ) → get_or now n None ≡ Some v → x ≡ Some v) → (get_or now n None ≡ None → x ≡ gives n)
    → Come None (settled_by gives) start (n + 1) (set now n x)
settles_next {gives} {start} {now} {n} {x} c h known other = come-on c h (by (get_or now n None) known other)
  where
    by : (g : Option ℤ) → ((v : ℤ) → g ≡ Some v → x ≡ Some v) → (g ≡ None → x ≡ gives n) → x ≡ later g (gives n)
    by (Some v) k o = k v refl
    by None k o = o refl

-- ---- the walk back

-- so many records are left: what is known, over what they write, is what all frames write
module _ (address : ℕ) (c : List ℕ) where
  pub record Walked (known : List (Option ℤ)) (walk : Back) : Type 0 where
    pub same : walk.capture.now ≡ c
    pub left : ℕ
    pub walking : Walking c left walk.end
    pub rest : (i : ℕ) → i < items
        → later (known_of known i) (last_write address (frames_to c left walk.end) i) ≡ last_write address (frames c) i

  pub walk-starts : {known : List (Option ℤ)} {walk : Back} → capture_fault c ≡ none → walk.capture.now ≡ c → walk.end ≡ trailer_begins c
      → ((i : ℕ) → i < items → known_of known i ≡ None) → Walked known walk
  unfolding frames
  walk-starts {known} {walk} fine same e n =
      record {
        same = same;
        left = count c;
        walking = rw e (sound c fine).walking;
        rest = λ i h. rw (n i h, e);
      }

  module _ {known : List (Option ℤ)} {walk further : Back} {given : Option ℕ} (w : Walked known walk) (s : Steps walk given further) where
    ended : (b : Bool) → record_ends c walk.end ≡ b → given ≡ cond b (Some walk.end) None
    ended b r = s.place ∙ ap (λ (d : List ℕ). cond (record_ends d walk.end) (Some walk.end) None) w.same ∙ rw r

    none-left : (n : ℕ) → Walking c n walk.end → given ≡ None → n ≡ 0
    none-left zero v n = refl
    none-left (suc n) v e = cc (ended true (both (record_ends c walk.end) (reaches c n (begins c walk.end)) v.reached).0)

    -- where it gives no place it has come to place 0
    pub walk_ends : given ≡ None → AllKnown address (frames c) known
    walk_ends n =
        record {
          each = λ i h.
              sym (later-none (known_of known i))
              ∙ ap (λ (m : ℕ). later (known_of known i) (last_write address (frames_to c m walk.end) i)) (sym (none-left w.left w.walking n))
              ∙ w.rest i h;
        }

    pub walk_on : {end : ℕ} {frame : List ℕ} {after : List (Option ℤ)} → given ≡ Some end → frame ≡ frame_before c end
        → Settles (wrote address frame) known after → Walked after further
    walk_on {end} {frame} {after} g f t = by w.left w.walking w.rest (record_ends c walk.end) refl
      where
        here : record_ends c walk.end ≡ true → frame ≡ frame_before c walk.end
        here r = f ∙ ap (frame_before c) (cc (ended true r))

        by : (n : ℕ) → Walking c n walk.end
            → ((i : ℕ) → i < items → later (known_of known i) (last_write address (frames_to c n walk.end) i) ≡ last_write address (frames c) i)
            → (b : Bool) → record_ends c walk.end ≡ b → Walked after further
        by n v rest false r = absurd (cc (ended false r))
        by zero v rest true r = absurd (omega (arith, nearer c walk.end r, eqb-true walk.end 0 v.reached))
        by (suc n) v rest true r =
            let further_on : further.end ≡ begins c walk.end = s.further ∙ rw (w.same, r) in
            record {
              same = ap (λ (b : Bor (List ℕ)). b.now) s.same ∙ w.same;
              left = n;
              walking = rw further_on (goes_on v);
              rest = λ i h.
                  rw further_on
                  (ap (λ (k : Option ℤ). later k (last_write address (frames_to c n (begins c walk.end)) i)) (t.now i h)
                  ∙ later-assoc (known_of known i) (wrote address frame i) (last_write address (frames_to c n (begins c walk.end)) i)
                  ∙ ap (later (known_of known i))
                  (rw (here r) (sym (last-one-more address (frames_to c n (begins c walk.end)) (frame_before c walk.end) i)))
                  ∙ rest i h);
            }

-- what is known, written over a table, leaves in it the last writes
pub known-writes : {address : ℕ} {fs : List (List ℕ)} {known : List (Option ℤ)} {t left : List ℤ} → AllKnown address fs known
    → WrittenOver known t left → LastWrites address fs t left
known-writes k w = record { entries = w.entries; each = λ i h. w.each i h ∙ ap (over _) (k.each i h) }
