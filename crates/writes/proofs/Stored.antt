-- The table after a list of writes: what each entry becomes, and what writes that are allowed leave alone.
-- Assumes nothing.
use Rattle.std.specs.Prelude.{Option, Some, None}
use mathlib.Core.Path.{◌≡◌, refl, sym, ap, ◌∙◌}
use mathlib.Core.Logic.{inl}
use mathlib.Core.Bool.{Bool, true, false, cond}
use mathlib.Core.List.{List, [], ◌∷◌}
use Prim.Native.Nat.{ℕ, ◌<◌}
use native.Mathlib.Omega.{arith}
use borrow.Author.Tests.{eqb-true, eqb-false, ne_eqb}
use lib.Dec.{eqb}
use lib.IntN.{ℤ}
use lib.ListN.{length}
use Rattle.numbers.proofs.Tests.{contrary, both}
use Rattle.items.specs.ItemList.{item_at}
use Rattle.table.specs.Table.{is_alarm_state, good_table, entry, stored}
use Rattle.table.proofs.Laws.{good-stored, stored-length, stored_same, stored_other, stored-read-only}
use Rattle.table.proofs.Laws.{StaysOrInRange, stays_then, stored-in-range}
use Rattle.writes.specs.Writes.{Write, writable, inside, allowed, each, stored_all, later, given, over}

-- ---- what an item is given, one thing after the other

pub later-none : (g : Option ℤ) → later g None ≡ g
later-none (Some v) = refl
later-none None = refl

pub later-assoc : (g h k : Option ℤ) → later (later g h) k ≡ later g (later h k)
later-assoc (Some v) h k = refl
later-assoc None h k = refl

-- an entry becomes what it is given first, and over that what it is given later
pub over-later : (v : ℤ) (g h : Option ℤ) → over (over v h) g ≡ over v (later g h)
over-later v (Some w) h = refl
over-later v None h = refl

-- ---- each entry

-- what one write makes of an entry
one-given : (t : List ℤ) (w : Write) (i : ℕ) → is_alarm_state i ≡ false → i < length t
    → entry (stored t w.place w.value) i ≡ over (entry t i) (cond (eqb w.place i) (Some w.value) None)
one-given t w i o h = by (eqb w.place i) refl
  where
    by : (b : Bool) → eqb w.place i ≡ b
        → entry (stored t w.place w.value) i ≡ over (entry t i) (cond b (Some w.value) None)
    by true e =
        let here = eqb-true w.place i e in
        ap (entry (stored t w.place w.value)) (sym here)
        ∙ stored_same t w.place w.value (ap is_alarm_state here ∙ o) (omega arith)
    by false e = stored_other t w.place i w.value o (λ z. eqb-false w.place i e (sym z))

-- an entry becomes what the writes give its item, and stays where they give it nothing: each but an alarm state
pub all-given : (t : List ℤ) (ws : List Write) (i : ℕ) → is_alarm_state i ≡ false → i < length t
    → entry (stored_all t ws) i ≡ over (entry t i) (given ws i)
all-given t [] i o h = refl
all-given t (w ∷ ws) i o h =
    all-given (stored t w.place w.value) ws i o (rw (stored-length t w.place w.value) h)
    ∙ ap (λ (v : ℤ). over v (given ws i)) (one-given t w i o h)
    ∙ over-later (entry t i) (given ws i) (cond (eqb w.place i) (Some w.value) None)

-- ---- writes that are allowed

-- they leave the read-only items, the alarm states apart
pub all-read-only : (t : List ℤ) (ws : List Write) (j : ℕ) → each writable ws ≡ true → (item_at j).writable ≡ false → is_alarm_state j ≡ false
    → entry (stored_all t ws) j ≡ entry t j
all-read-only t [] j a r o = refl
all-read-only t (w ∷ ws) j a r o =
    let p = both (writable w) (each writable ws) a in
    all-read-only (stored t w.place w.value) ws j p.1 r o ∙ stored-read-only t w.place j w.value p.0 r o

-- they give a read-only item nothing
pub read-only-given : (ws : List Write) (i : ℕ) → each allowed ws ≡ true → (item_at i).writable ≡ false → given ws i ≡ None
read-only-given [] i a r = refl
read-only-given (w ∷ ws) i a r =
    let p = both (allowed w) (each allowed ws) a in
    let here = (both (writable w) (inside w) p.0).0 in
    let other : w.place ≡ i → ⊥ = λ e. contrary (sym here ∙ ap (λ (j : ℕ). (item_at j).writable) e ∙ r) in
    rw (read-only-given ws i p.1 r, ne_eqb w.place i other)

-- and leave every entry unchanged or in its range, in any table
pub all-in-range : (t : List ℤ) (ws : List Write) (j : ℕ) → each inside ws ≡ true → StaysOrInRange t (stored_all t ws) j
all-in-range t [] j a = inl refl
all-in-range t (w ∷ ws) j a =
    let p = both (inside w) (each inside ws) a in
    let one = stored t w.place w.value in
    stays_then t one (stored_all one ws) j (stored-in-range t w.place j w.value p.0) (all-in-range one ws j p.1)

-- so a good table stays good
pub all-good : (t : List ℤ) (ws : List Write) → good_table t ≡ true → each inside ws ≡ true → good_table (stored_all t ws) ≡ true
all-good t [] g a = g
all-good t (w ∷ ws) g a =
    let p = both (inside w) (each inside ws) a in
    all-good (stored t w.place w.value) ws (good-stored t w.place w.value g p.0) p.1
