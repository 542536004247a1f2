-- What the C face makes of the outcomes of the crates below: of a text that is written, of a frame that is looked up, and of the last
-- write to an item. Where one was refused, zeros stand in its place.
-- Assumes nothing.
use Rattle.std.specs.Prelude.{Option, Some, None, Result, Ok, Err}
use Rattle.std.specs.Int.{from_bool}
use Rattle.std.specs.Option.{is_some, unwrap_or}
use Rattle.std.specs.Result.{result_unwrap_or}
use mathlib.Core.Path.{◌≡◌, refl, sym, ap, ◌∙◌}
use mathlib.Core.Bool.{cond}
use mathlib.Core.List.{List, [], ◌∷◌, ◌++◌}
use Prim.Native.Nat.{ℕ, ◌+◌, ◌≤◌}
use native.Mathlib.Omega.{arith}
use borrow.Author.Tests.{le-leb}
use lib.IntN.{ℤ, pos}
use lib.ListN.{length, get_or, drop}
use lib.Seq.{sets-eq}
use Rattle.numbers.specs.declared.Refusal.{Refusal}
use Rattle.numbers.specs.Refusals.{number_given}
use Rattle.numbers.proofs.Order.{last-met}
use Rattle.text.specs.Numbers.{width}
use Rattle.text.specs.Writing.{Written, written, written_as}
use Rattle.writes.specs.Writes.{is_value, over}
use Rattle.capture.specs.declared.Stretch.{Stretch}
use Rattle.capture.specs.Format.{longest_capture}
use Rattle.capture.specs.Show.{Shows, shown_as}
use Rattle.capture.proofs.ByNumber.{shown-small}
use Rattle.last_write.specs.declared.LastWrite.{LastWrite}
use Rattle.last_write.specs.LastWrite.{Question, Answers, answer_as, ask_number, last_written, records_read}
use Rattle.panel.specs.Calls.{text_number, text_left}

-- ---- a text that is written

pub text-given : (r : Result (List ℕ) Refusal) {w : Written} → written_as width r ≡ w → number_given r ≡ w.number
text-given (Ok cs) e = ap (λ (w : Written). w.number) e
text-given (Err x) e = ap (λ (w : Written). w.number) e

-- what stands at each of six places
abbrev pub in-places : List ℕ → List ℕ
in-places cs = get_or cs 0 0 ∷ get_or cs 1 0 ∷ get_or cs 2 0 ∷ get_or cs 3 0 ∷ get_or cs 4 0 ∷ get_or cs 5 0 ∷ []

-- of six characters it is all
six-places : (cs : List ℕ) → length cs ≡ width → in-places cs ≡ cs
six-places [] h = absurd (omega arith)
six-places (a ∷ []) h = absurd (omega arith)
six-places (a ∷ b ∷ []) h = absurd (omega arith)
six-places (a ∷ b ∷ c ∷ []) h = absurd (omega arith)
six-places (a ∷ b ∷ c ∷ d ∷ []) h = absurd (omega arith)
six-places (a ∷ b ∷ c ∷ d ∷ e ∷ []) h = absurd (omega arith)
six-places (a ∷ b ∷ c ∷ d ∷ e ∷ f ∷ []) h = refl
six-places (a ∷ b ∷ c ∷ d ∷ e ∷ f ∷ g ∷ cs) h = absurd (omega arith)

module _ (d : ℕ) (v : ℤ) (cs : List ℕ) (room : width ≤ length cs) where
  -- with room for it the number is that of the writing
  pub number-with-room : text_number d v cs ≡ (written width d v).number
  number-with-room = rw (le-leb width (length cs) room) (last-met (written width d v).number)

  -- and its characters stand at the front, each at its place
  pub left-with-room : {front six : List ℕ} → front ≡ six → length six ≡ width → (chars : List ℕ) → length chars ≡ width
      → in-places six ≡ in-places chars → chars ≡ (written width d v).chars → front ++ drop width cs ≡ text_left d v cs
  left-with-room {six} put long chars whole places e =
      let same : six ≡ (written width d v).chars = sym (six-places six long) ∙ places ∙ six-places chars whole ∙ e in
      rw (put, le-leb width (length cs) room, ← same) (sym (rw long at (sets-eq six cs 0 (omega arith))))

-- ---- a frame that is looked up

module _ (c : List ℕ) (frame : ℕ) where
  -- place and length of what is shown lie in the capture
  pub stretch-small : (r : Result Stretch Refusal) (s : Stretch) → s ≡ result_unwrap_or r (record { place = 0; len = 0 })
      → Shows c frame (shown_as r) → s.place + s.len ≤ longest_capture
  stretch-small (Ok x) s e h = rw (e, h.place, h.len) (shown-small c frame)
  stretch-small (Err x) s e h = rw e (omega arith)

  pub stretch-shown : (r : Result Stretch Refusal) (s : Stretch) (n : ℕ) → s ≡ result_unwrap_or r (record { place = 0; len = 0 })
      → Shows c frame (shown_as r) → n ≡ number_given r → Shows c frame (record { number = n; place = s.place; len = s.len })
  stretch-shown (Ok x) s n e h g = record { given = g ∙ h.given; place = rw e h.place; len = rw e h.len }
  stretch-shown (Err x) s n e h g = record { given = g ∙ h.given; place = rw e h.place; len = rw e h.len }

-- ---- the last write to an item

-- what is told of an answer
pub record Found (q : Question) (c : List ℕ) (r : Result LastWrite Refusal) (found : LastWrite) : Type 0 where
  pub given : number_given r ≡ ask_number q c
  pub written : found.written ≡ last_written q c
  pub read : found.records ≡ records_read q c

pub answer-found : {q : Question} {c : List ℕ} (r : Result LastWrite Refusal) {found : LastWrite}
    → found ≡ result_unwrap_or r (record { written = None; records = 0 }) → Answers q c (answer_as r) → Found q c r found
answer-found (Ok x) e h = record { given = h.given; written = rw e h.written; read = rw e h.read }
answer-found (Err x) e h = record { given = h.given; written = rw e h.written; read = rw e h.read }

-- whether a write was found, and its value
pub told-found : {o p : Option ℤ} → o ≡ p → from_bool (is_some o) ≡ cond (is_value p) 1 0
told-found {o} e = rw (← e) (by o)
  where
    by : (o : Option ℤ) → from_bool (is_some o) ≡ cond (is_value o) 1 0
    by (Some v) = refl
    by None = refl

pub told-value : {o p : Option ℤ} → o ≡ p → unwrap_or o (pos 0) ≡ over (pos 0) p
told-value {o} e = rw (← e) (by o)
  where
    by : (o : Option ℤ) → unwrap_or o (pos 0) ≡ over (pos 0) o
    by (Some v) = refl
    by None = refl
