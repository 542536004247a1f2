-- What writes that are allowed leave outside their span, and that the registers of the span then read what was written.
-- Assumes nothing.
use mathlib.Core.Path.{◌≡◌, refl, sym, ap, ap₂, ◌∙◌}
use mathlib.Core.Logic.{inl, inr, ⊎_elim}
use mathlib.Core.Bool.{Bool, true, false}
use mathlib.Core.List.{List, [], ◌∷◌, ◌++◌}
use Prim.Native.Nat.{ℕ, suc, ◌+◌, ◌*◌, ◌/◌, ◌≤◌, ◌<◌}
use native.Mathlib.Omega.{arith}
use borrow.Author.Tests.{ltb-true, ltb-false}
use lib.Dec.{ltb}
use lib.IntN.{ℤ}
use lib.ListN.{length, get_or}
use Rattle.numbers.proofs.Tests.{contrary, both}
use Rattle.items.specs.ItemList.{items, map_size, item_at, place_of}
use Rattle.items.proofs.Lists.{writable-listed}
use Rattle.items.proofs.Lookup.{item-has, place-past, place-registered}
use Rattle.table.specs.Table.{entry, is_alarm_state, answered, stored}
use Rattle.table.proofs.Alarms.{writable-no-state}
use Rattle.table.proofs.Laws.{stored-length, stored_same, stored_other}
use Rattle.registers.specs.Register.{to_register, of_register, word, high_first, read_as, register_at, registers_from}
use Rattle.registers.proofs.Registers.{to-of}
use Rattle.writes.specs.Writes.{Write, writes, writable, each, stored_all, Outside}

-- ---- one register

module _ (r : ℕ) (w : (item_at (place_of r)).writable ≡ true) where
  -- the register of a writable item is in the map, and the item has no other
  writable-in-map : r < map_size
  writable-in-map = by (ltb r map_size) refl
    where
      by : (b : Bool) → ltb r map_size ≡ b → r < map_size
      by true e = ltb-true r map_size e
      by false e = contrary (sym w ∙ ap (λ (i : ℕ). (item_at i).writable) (place-past r (ltb-false r map_size e)))

  its-register : (item_at (place_of r)).register ≡ r
  its-register = place-registered r (writable-listed (place_of r) w)

  -- it reads its item's entry
  reads-entry : (t : List ℤ) → register_at t r ≡ to_register (entry t (place_of r))
  unfolding register_at answered
  reads-entry t = ap (read_as t) (sym (item-has r (writable-listed (place_of r) w)))

-- ---- the span

-- two bytes to each register
pub length-writes : (r : ℕ) (bytes : List ℕ) → length (writes r bytes) ≡ length bytes / 2
length-writes r [] = refl
length-writes r (high ∷ []) = refl
length-writes r (high ∷ low ∷ bytes) = let rest = length-writes (suc r) bytes in omega arith

-- the registers of a span are in the map
pub span-in-map : (r : ℕ) (bytes : List ℕ) → each writable (writes r bytes) ≡ true → 0 < length (writes r bytes)
    → r + length (writes r bytes) ≤ map_size
span-in-map r [] a h = absurd (omega arith)
span-in-map r (high ∷ []) a h = absurd (omega arith)
span-in-map r (high ∷ low ∷ bytes) a h =
    let rest = writes (suc r) bytes in
    let p = both (item_at (place_of r)).writable (each writable rest) a in
    by (ltb 0 (length rest)) refl (writable-in-map r p.0) (span-in-map (suc r) bytes p.1)
  where
    by : (b : Bool) → ltb 0 (length (writes (suc r) bytes)) ≡ b → r < map_size
        → (0 < length (writes (suc r) bytes) → suc r + length (writes (suc r) bytes) ≤ map_size)
        → r + suc (length (writes (suc r) bytes)) ≤ map_size
    by true e one more = let m = more (ltb-true _ _ e) in omega arith
    by false e one more = omega (arith, ltb-false 0 (length (writes (suc r) bytes)) e)

-- so a span that leaves the map has a register that is not writable
pub span-past-map : (r : ℕ) (bytes : List ℕ) → 0 < length (writes r bytes) → map_size < r + length (writes r bytes)
    → each writable (writes r bytes) ≡ false
span-past-map r bytes some past = by (each writable (writes r bytes)) refl
  where
    by : (b : Bool) → each writable (writes r bytes) ≡ b → each writable (writes r bytes) ≡ false
    by true e = absurd (let inside = span-in-map r bytes e some in omega arith)
    by false e = e

-- an entry whose register is outside the span stays, the alarm states apart
pub outside-stays : (t : List ℤ) (r : ℕ) (bytes : List ℕ) (i : ℕ) → is_alarm_state i ≡ false → each writable (writes r bytes) ≡ true
    → Outside r (length (writes r bytes)) (item_at i).register → entry (stored_all t (writes r bytes)) i ≡ entry t i
outside-stays t r [] i s a o = refl
outside-stays t r (high ∷ []) i s a o = refl
outside-stays t r (high ∷ low ∷ bytes) i s a o =
    let p = both (item_at (place_of r)).writable (each writable (writes (suc r) bytes)) a in
    outside-stays (stored t (place_of r) (of_register (word high low))) (suc r) bytes i s p.1 (next o)
    ∙ stored_other t (place_of r) i _ s (λ e. other o (ap (λ (k : ℕ). (item_at k).register) e ∙ its-register r p.0))
  where
    next : Outside r (suc (length (writes (suc r) bytes))) (item_at i).register
        → Outside (suc r) (length (writes (suc r) bytes)) (item_at i).register
    next = ⊎_elim (λ l. inl (omega arith)) (λ h. inr (omega arith))

    other : Outside r (suc (length (writes (suc r) bytes))) (item_at i).register → (item_at i).register ≡ r → ⊥
    other = ⊎_elim (λ l e. omega arith) (λ h e. omega arith)

-- ---- read back

-- each value stands at its place
Stand : List ℤ → List Write → Type 0
Stand t [] = Unit
Stand t (w ∷ ws) = (entry t w.place ≡ w.value) × Stand t ws

-- since no register of a span comes twice, each value stands at the end where it was stored
all-stand : (t : List ℤ) (r : ℕ) (bytes : List ℕ) → length t ≡ items → each writable (writes r bytes) ≡ true
    → Stand (stored_all t (writes r bytes)) (writes r bytes)
unfolding Stand
all-stand t r [] l a = tt
all-stand t r (high ∷ []) l a = tt
all-stand t r (high ∷ low ∷ bytes) l a =
    let p = both (item_at (place_of r)).writable (each writable (writes (suc r) bytes)) a in
    let listed = writable-listed (place_of r) p.0 in
    let here = its-register r p.0 in
    let other = writable-no-state (place_of r) p.0 in (
      outside-stays (stored t (place_of r) (of_register (word high low))) (suc r) bytes (place_of r) other p.1 (inl (omega arith))
          ∙ stored_same t (place_of r) _ other (omega arith),
      all-stand (stored t (place_of r) (of_register (word high low))) (suc r) bytes (stored-length t (place_of r) _ ∙ l) p.1,
    )

-- and the registers read the bytes that were written
stand_read : (t : List ℤ) (r : ℕ) (bytes : List ℕ) → Stand t (writes r bytes) → each writable (writes r bytes) ≡ true
    → ((i : ℕ) → get_or bytes i 0 < 256) → length bytes ≡ 2 * length (writes r bytes)
    → registers_from t r (length (writes r bytes)) ≡ bytes
unfolding Stand
stand_read t r [] s a b l = refl
stand_read t r (high ∷ []) s a b l = absurd (omega arith)
stand_read t r (high ∷ low ∷ bytes) s a b l =
    let p = both (item_at (place_of r)).writable (each writable (writes (suc r) bytes)) a in
    let h = b 0 in
    let k = b 1 in
    let read : register_at t r ≡ word high low =
    reads-entry r p.0 t ∙ ap to_register s.0 ∙ to-of (word high low) (omega arith) in
    let two : high_first (register_at t r) ≡ high ∷ low ∷ [] =
    ap high_first read ∙ ap₂ (λ (x y : ℕ). x ∷ y ∷ []) (omega arith) (omega arith) in
    ap₂ (λ (x y : List ℕ). x ++ y) two (stand_read t (suc r) bytes s.1 p.1 (λ i. b (suc (suc i))) (omega arith))

pub reads-back : (t : List ℤ) (r : ℕ) (bytes : List ℕ) → length t ≡ items → each writable (writes r bytes) ≡ true
    → ((i : ℕ) → get_or bytes i 0 < 256) → length bytes ≡ 2 * length (writes r bytes)
    → registers_from (stored_all t (writes r bytes)) r (length (writes r bytes)) ≡ bytes
reads-back t r bytes l a b e = stand_read _ r bytes (all-stand t r bytes l a) a b e
