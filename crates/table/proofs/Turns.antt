-- What is read of a column of the list: the check's turns over the entries and the two columns of limits, all together, the start
-- values, and storing a run of values.
-- Assumes nothing.
use mathlib.Core.Path.{◌≡◌, refl, sym, ap, ◌∙◌}
use mathlib.Core.Bool.{Bool, true, false, ◌&&◌}
use mathlib.Core.List.{List, [], ◌∷◌, ◌++◌, append-nil, map}
use Prim.Native.Nat.{ℕ, suc, ◌+◌, ◌^◌, ◌<◌, ◌≤◌}
use native.Mathlib.Nat.{not-suc-le-zero, le_of_suc-le-suc, le_of_lt}
use native.Mathlib.Omega.{arith}
use borrow.Author.Tests.{ltb-true}
use lib.Dec.{ltb}
use lib.IntN.{ℤ, pos}
use lib.ListN.{length, get_or, take, get_or-map, drop_of_length-le}
use lib.Seq.{sets, sets-eq, ext_get_or, get_or-take}
use lib.Signed.{le_z, mag}
use mir.Syntax.{w32}
use mir.Val.{to_z, of_z}
use Rattle.std.specs.List.{fold, zip}
use Rattle.sign.proofs.Laws.{same}
use Rattle.items.specs.ItemList.{Item, items, item_list, no_item, item_at, lines, from_low_to_high}
use Rattle.items.specs.declared.TheConstants.{LOW, HIGH, START}
use Rattle.items.proofs.Lists.{passes, passes_at, column-at}
use Rattle.table.specs.Table.{all_in_range, start_values}

-- what the machine reads at a place of a column, where the list's values fit an i32
pub column-read : (f : Item → ℤ) → passes (λ (k : ℕ). ltb (mag (f (item_at k))) (2 ^ 31)) items ≡ true
    → (i : ℕ) → i < items → to_z w32 (of_z w32 (get_or (map f lines) i (pos 0))) ≡ f (item_at i)
column-read f fit i h =
    rw (column-at f i (pos 0) (le_of_lt h)) (same _ (ltb-true _ _ (passes_at (λ (k : ℕ). ltb (mag (f (item_at k))) (2 ^ 31)) items i fit h)))

-- a turn: an entry, its low and its high limit
abbrev pub turn : Bool → (ℤ × ℤ) × ℤ → Bool
turn inside p = inside && le_z p.0.1 p.0.0 && le_z p.0.0 p.1

-- the turns over a table come to what held before them and the check of it, by some lines whose limits the columns have at each place
turns : (inside : Bool) (l : List Item) (t lows highs : List ℤ) → length t ≤ length l → length t ≤ length lows → length t ≤ length highs
    → ((i : ℕ) → i < length t → get_or lows i (pos 0) ≡ (get_or l i no_item).low)
    → ((i : ℕ) → i < length t → get_or highs i (pos 0) ≡ (get_or l i no_item).high)
    → fold turn inside (zip (zip t lows) highs) ≡ (inside && all_in_range l t)
turns true [] [] lows highs h p q low high = refl
turns false [] [] lows highs h p q low high = refl
turns true (x ∷ l) [] lows highs h p q low high = refl
turns false (x ∷ l) [] lows highs h p q low high = refl
turns inside [] (v ∷ t) lows highs h p q low high = absurd (not-suc-le-zero h)
turns inside (x ∷ l) (v ∷ t) [] highs h p q low high = absurd (not-suc-le-zero p)
turns inside (x ∷ l) (v ∷ t) (a ∷ lows) [] h p q low high = absurd (not-suc-le-zero q)
turns true (x ∷ l) (v ∷ t) (a ∷ lows) (b ∷ highs) h p q low high =
    rw (low 0 (omega arith), high 0 (omega arith))
    (turns (from_low_to_high x v) l t lows highs (le_of_suc-le-suc h) (le_of_suc-le-suc p) (le_of_suc-le-suc q)
    (λ i k. low (suc i) (omega arith)) (λ i k. high (suc i) (omega arith)))
turns false (x ∷ l) (v ∷ t) (a ∷ lows) (b ∷ highs) h p q low high =
    turns false l t lows highs (le_of_suc-le-suc h) (le_of_suc-le-suc p) (le_of_suc-le-suc q)
    (λ i k. low (suc i) (omega arith)) (λ i k. high (suc i) (omega arith))

-- so the turns over the columns check the table
pub columns_checked : (t : List ℤ) → length t ≡ items → fold turn true (zip (zip t LOW) HIGH) ≡ all_in_range item_list t
columns_checked t h =
    turns true item_list t LOW HIGH (omega arith) (omega arith) (omega arith)
    (λ i k. column-at (λ (x : Item). x.low) i (pos 0) (omega arith))
    (λ i k. column-at (λ (x : Item). x.high) i (pos 0) (omega arith))

-- the start values are their column, up to the line that is no item
pub start_column : take items START ≡ start_values
unfolding start_values
start_column =
    ext_get_or (pos 0) (take items START) start_values refl
    (λ i h. get_or-take items START i (pos 0) h ∙ column-at (λ (x : Item). x.start) i (pos 0) (le_of_lt h)
    ∙ sym (get_or-map (λ (x : Item). x.start) item_list i no_item))

-- a run that is as long as the table replaces it
pub store-all : (t vs : List ℤ) → length t ≡ length vs → sets t 0 vs ≡ vs
store-all t vs e =
    sets-eq vs t 0 (omega arith) ∙ ap (λ (r : List ℤ). vs ++ r) (drop_of_length-le t {i = 0 + length vs} (omega arith)) ∙ append-nil vs
