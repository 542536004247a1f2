-- Looking an item up: where a search of the list ends, in the list and in the code's rows, and what the code's table of the map holds for
-- each register.
-- Assumes nothing.
use Rattle.std.specs.Prelude.{Option, Some, None, nat_lt, position, bytes_eq}
use Rattle.std.specs.Bool.{then_some}
use Rattle.std.specs.List.{position_or_len}
use mathlib.Core.Path.{◌≡◌, refl, sym, ap, ◌∙◌}
use mathlib.Core.Bool.{Bool, true, ◌&&◌, false, cond, not, and-true}
use mathlib.Core.List.{List, [], ◌∷◌, map}
use Prim.Native.Nat.{ℕ, suc, ◌-◌, ◌<◌, ◌≤◌, ◌+◌, min}
use native.Mathlib.Nat.{zero-add}
use native.Mathlib.Omega.{arith}
use borrow.Author.Tests.{eqb-true, leb-true, lt-ltb, le-ltb, ltb-true, ltb-false, ne_eqb}
use lib.Dec.{eqb, leb, ltb}
use lib.ListN.{get_or, length}
use Rattle.numbers.proofs.Tests.{both}
use Rattle.items.specs.ItemList.{Item, items, listed, map_size, item_list, no_item, item_at, first_from, named, registered, found, found_by_register, place_found, place_of}
use Rattle.items.specs.declared.Item as declared
use Rattle.items.specs.declared.TheConstants.{LIST}
use Rattle.items.specs.Rows.{row}
use Rattle.items.proofs.Lists.{values, values-at, passes_at}

-- the number of an item is one more than its place in the list
pub listed-place : (number : ℕ) → listed number ≡ true → (1 ≤ number) × (number - 1 < items)
listed-place number l =
    let b = both (leb 1 number) (leb number items) l in
    let some = leb-true 1 number b.0 in
    let few = leb-true number items b.1 in
    (some, omega arith)

-- past the map no register is found
registers-below : ℕ → List Item → Bool
registers-below n [] = true
registers-below n (x ∷ xs) = ltb x.register n && registers-below n xs

none-past : (n r i : ℕ) (xs : List Item) → registers-below n xs ≡ true → n ≤ r → first_from i (registered r) xs ≡ None
unfolding registers-below
none-past n r i [] e h = refl
none-past n r i (x ∷ xs) e h =
    let p = both (ltb x.register n) (registers-below n xs) e in
    let l : x.register < n = ltb-true _ _ p.0 in
    let other : x.register ≡ r → ⊥ = λ q. omega arith in
    rw (ne_eqb x.register r other) (none-past n r (suc i) xs p.1 h)

pub nothing-past : (r : ℕ) → map_size ≤ r → found_by_register r ≡ None
unfolding found_by_register registers-below
nothing-past r h = none-past map_size r 0 item_list refl h

-- ---- where a search ends

-- a search ends at a place of the list whose line passes
first_passes : (p : Item → Bool) (xs : List Item) (i j : ℕ) → first_from i p xs ≡ Some j
    → (i ≤ j) × (j < i + length xs) × (p (get_or xs (j - i) no_item) ≡ true)
first_passes p [] i j e = absurd (let z : ◌≡◌ {A = ℕ} 0 1 = cc in omega arith)
first_passes p (x ∷ xs) i j e = by (first_passes p xs (suc i) j) (p x) refl e
  where
    here : i ≡ j → p x ≡ true → p (get_or (x ∷ xs) (j - i) no_item) ≡ true
    here q t = let z : j - i ≡ 0 = omega arith in rw z t

    there : suc i ≤ j → p (get_or xs (j - suc i) no_item) ≡ true → p (get_or (x ∷ xs) (j - i) no_item) ≡ true
    there h t = let z : j - i ≡ suc (j - suc i) = omega arith in rw z t

    by : (first_from (suc i) p xs ≡ Some j → (suc i ≤ j) × (j < suc i + length xs) × (p (get_or xs (j - suc i) no_item) ≡ true))
        → (t : Bool) → p x ≡ t → cond t (Some i) (first_from (suc i) p xs) ≡ Some j
        → (i ≤ j) × (j < i + length (x ∷ xs)) × (p (get_or (x ∷ xs) (j - i) no_item) ≡ true)
    by rest true t q = let z : i ≡ j = cc in (omega arith, omega arith, here z t)
    by rest false t q = let r = rest q in (omega (arith, r.0), omega (arith, r.1), there r.0 r.2)

listed-passes : (p : Item → Bool) (j : ℕ) → first_from 0 p item_list ≡ Some j → (j < items) × (p (item_at j) ≡ true)
listed-passes p j e =
    let r = first_passes p item_list 0 j e in
    let z : j - 0 ≡ j = omega arith in
    (r.1, sym (ap (λ (k : ℕ). p (item_at k)) z) ∙ r.2)

pub found-place : (a b j : ℕ) → found a b ≡ Some j → (j < items) × (named a b (item_at j) ≡ true)
unfolding found
found-place a b = listed-passes (named a b)

pub found-register : (r j : ℕ) → found_by_register r ≡ Some j → (j < items) × ((item_at j).register ≡ r)
unfolding found_by_register
found-register r j e = let q = listed-passes (registered r) j e in (q.0, eqb-true _ _ q.1)

-- each item is at the place of its identifier
pub named-place : (i : ℕ) → i < items → place_found (found (item_at i).first (item_at i).second) ≡ i
unfolding found
named-place i h = eqb-true _ _ (passes_at (λ (k : ℕ). eqb (place_found (found (item_at k).first (item_at k).second)) k) items i refl h)

-- ---- the same search, of the rows

module _ (p : Item → Bool) (q : declared.Item → Bool) (same : (x : Item) → q (row x) ≡ p x) where
  one-less : (k n : ℕ) → nat_lt (1 + k) (suc n) ≡ nat_lt k n
  one-less k n = by (nat_lt k n) refl
    where
      by : (t : Bool) → nat_lt k n ≡ t → nat_lt (1 + k) (suc n) ≡ t
      by true e = let h = ltb-true k n e in lt-ltb (1 + k) (suc n) (omega arith)
      by false e = let h = ltb-false k n e in le-ltb (1 + k) (suc n) (omega arith)

  -- in a list that starts at place i
  found-from : List Item → ℕ → Option ℕ
  found-from xs i = cond (nat_lt (position_or_len q (map row xs)) (length (map row xs))) (Some (i + position_or_len q (map row xs))) None

  first : (xs : List Item) (i : ℕ) → found-from xs i ≡ first_from i p xs
  unfolding found-from
  first [] i = refl
  first (x ∷ xs) i = by (first xs (suc i)) (q (row x)) refl
    where
      by : found-from xs (suc i) ≡ first_from (suc i) p xs → (t : Bool) → q (row x) ≡ t
          → cond (nat_lt (cond (not t) (1 + position_or_len q (map row xs)) 0) (suc (length (map row xs))))
          (Some (i + cond (not t) (1 + position_or_len q (map row xs)) 0)) None ≡ cond (p x) (Some i) (first_from (suc i) p xs)
      by rest true e =
          let z : i + 0 ≡ i = omega arith in
          rw (sym (same x) ∙ e, lt-ltb 0 (suc (length (map row xs))) (omega arith), z)
      by rest false e =
          let z : i + (1 + position_or_len q (map row xs)) ≡ suc i + position_or_len q (map row xs) = omega arith in
          rw (sym (same x) ∙ e, one-less (position_or_len q (map row xs)) (length (map row xs)), z) rest

  first-place : (xs : List Item) → position q (map row xs) ≡ first_from 0 p xs
  unfolding found-from
  first-place xs = rw zero-add at (first xs 0)

-- the first row with a name is that of the first item with it
pub row_found : (a b : ℕ) → position (λ (x : declared.Item). bytes_eq x.name (a ∷ b ∷ [])) LIST ≡ found a b
unfolding found
row_found a b =
    let same : (x : Item) → bytes_eq (row x).name (a ∷ b ∷ []) ≡ named a b x = λ x. rw (and-true (eqb x.second b)) in
    first-place (named a b) (λ (x : declared.Item). bytes_eq x.name (a ∷ b ∷ [])) same item_list

-- ---- the place of the item that has a register

-- it is past the list at most, and there for every register past the map; and it tells what was found
module _ (r : ℕ) where
  pub place-small : place_of r ≤ items
  unfolding place_of found_by_register
  place-small = by (found_by_register r) refl
    where
      by : (f : Option ℕ) → found_by_register r ≡ f → place_found f ≤ items
      by (Some j) e = let inside = (found-register r j e).0 in omega arith
      by None e = omega arith

  pub place-past : map_size ≤ r → place_of r ≡ items
  unfolding place_of
  place-past h = ap place_found (nothing-past r h)

  pub item-has : place_of r < items → Some (place_of r) ≡ found_by_register r
  unfolding place_of
  item-has = by (found_by_register r)
    where
      by : (f : Option ℕ) → place_found f < items → Some (place_found f) ≡ f
      by (Some j) h = refl
      by None h = absurd (omega arith)

  -- the item there has the register
  pub place-registered : place_of r < items → (item_at (place_of r)).register ≡ r
  place-registered h = (found-register r (place_of r) (sym (item-has h))).1

  pub none_has : items ≤ place_of r → None ≡ found_by_register r
  unfolding place_of found_by_register
  none_has = by (found_by_register r) refl
    where
      by : (f : Option ℕ) → found_by_register r ≡ f → items ≤ place_found f → None ≡ f
      by (Some j) e h = absurd (omega (arith, (found-register r j e).0))
      by None e h = refl

  pub told_by_place : then_some (ltb (place_of r) items) (place_of r) ≡ found_by_register r
  told_by_place = by (ltb (place_of r) items) refl
    where
      by : (t : Bool) → ltb (place_of r) items ≡ t → then_some t (place_of r) ≡ found_by_register r
      by true e = item-has (ltb-true (place_of r) items e)
      by false e = none_has (ltb-false (place_of r) items e)

-- each item is at the place of its register
pub own-place : (i : ℕ) → i < items → place_of (item_at i).register ≡ i
unfolding place_of found_by_register
own-place i h = eqb-true _ _ (passes_at (λ (k : ℕ). eqb (place_of (item_at k).register) k) items i refl h)

-- a table that holds it for each register of the map, and last for those past it
pub held-inside : (r : ℕ) → r < map_size → get_or (values place_of (suc map_size)) r 0 ≡ place_of r
held-inside r h = values-at place_of (suc map_size) r 0 (omega arith)

pub held : (r : ℕ) → get_or (values place_of (suc map_size)) (min r map_size) 0 ≡ place_of r
held r = by (ltb r map_size) refl
  where
    by : (t : Bool) → ltb r map_size ≡ t → get_or (values place_of (suc map_size)) (min r map_size) 0 ≡ place_of r
    by true e = let h = ltb-true r map_size e in let m : min r map_size ≡ r = omega arith in rw m (held-inside r h)
    by false e =
        let h = ltb-false r map_size e in
        let m : min r map_size ≡ map_size = omega arith in
        rw m (values-at place_of (suc map_size) map_size 0 (omega arith) ∙ place-past map_size (omega arith) ∙ sym (place-past r h))
