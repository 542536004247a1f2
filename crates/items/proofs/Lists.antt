-- Laws on lists and tests for the proofs here and in the crates above: reading a column at a place, and a function's values and a test
-- at each number below a bound.
-- Assumes nothing.
use mathlib.Core.Path.{◌≡◌, refl, sym, ap, ◌∙◌}
use mathlib.Core.Bool.{Bool, true, false, cond, ◌&&◌}
use mathlib.Core.List.{List, [], ◌∷◌, ◌++◌, map}
use Prim.Native.Nat.{ℕ, zero, suc, ◌<◌, ◌≤◌}
use native.Mathlib.Nat.{not-suc-le-zero, le_of_suc-le-suc}
use native.Mathlib.Omega.{arith}
use borrow.Author.Tests.{eqb-true, eqb-false, ltb-true, ltb-false}
use lib.Dec.{eqb, ltb}
use lib.ListN.{length, get_or, get_or-eq_default, get_or-map}
use Rattle.numbers.proofs.Tests.{contrary, both, chosen}
use Rattle.items.specs.ItemList.{Item, items, map_size, item_list, no_item, item_at, lines, line_of, Sizes}

-- what is read at a place inside a list does not depend on what stands past its end
pub read-inside : {A : Type 0} (l : List A) (i : ℕ) (d e : A) → i < length l → get_or l i d ≡ get_or l i e
read-inside [] i d e h = absurd (not-suc-le-zero h)
read-inside (x ∷ xs) zero d e h = refl
read-inside (x ∷ xs) (suc i) d e h = read-inside xs i d e (le_of_suc-le-suc h)

-- a list with what stands past its end as one line more
one-line-more : {A : Type 0} (l : List A) (i : ℕ) (d : A) → get_or (l ++ (d ∷ [])) i d ≡ get_or l i d
one-line-more [] zero d = refl
one-line-more [] (suc i) d = refl
one-line-more (x ∷ xs) zero d = refl
one-line-more (x ∷ xs) (suc i) d = one-line-more xs i d

-- past the list stands no item
pub line-past : (i : ℕ) → items ≤ i → item_at i ≡ no_item
line-past i h = get_or-eq_default item_list no_item h

-- so what is writable is in the list
pub writable-listed : (i : ℕ) → (item_at i).writable ≡ true → i < items
writable-listed i w = by (ltb i items) refl
  where
    by : (b : Bool) → ltb i items ≡ b → i < items
    by true e = ltb-true i items e
    by false e = contrary (sym w ∙ ap (λ (x : Item). x.writable) (line-past i (ltb-false i items e)))

-- a place has a line
pub line-within : (i : ℕ) → line_of i < length lines
line-within i =
    chosen (λ (k : ℕ). k < length lines) (ltb i items) (λ e. let h = ltb-true i items e in omega arith) (λ _. omega arith)

-- a column has at a place inside the list, and right behind it, what the list says of the item there
pub column-at : {A : Type 0} (f : Item → A) (i : ℕ) (d : A) → i ≤ items → get_or (map f lines) i d ≡ f (item_at i)
column-at f i d h =
    read-inside (map f lines) i d (f no_item) (omega arith) ∙ get_or-map f lines i no_item ∙ ap f (one-line-more item_list i no_item)

-- so it has, for every place, at the line of that place
pub column : {A : Type 0} (f : Item → A) (i : ℕ) (d : A) → get_or (map f lines) (line_of i) d ≡ f (item_at i)
column f i d = by (ltb i items) refl
  where
    by : (t : Bool) → ltb i items ≡ t → get_or (map f lines) (cond t i items) d ≡ f (item_at i)
    by true e = let h = ltb-true i items e in column-at f i d (omega arith)
    by false e = ap f (sym (line-past i (ltb-false i items e)))

-- what a function says of each number below n, in their order
abbrev pub values : {A : Type 0} → (ℕ → A) → ℕ → List A
values f zero = []
values f (suc n) = f zero ∷ values (λ (k : ℕ). f (suc k)) n

pub values-at : {A : Type 0} (f : ℕ → A) (n i : ℕ) (d : A) → i < n → get_or (values f n) i d ≡ f i
values-at f zero i d h = absurd (not-suc-le-zero h)
values-at f (suc n) zero d h = refl
values-at f (suc n) (suc i) d h = values-at (λ (k : ℕ). f (suc k)) n i d (le_of_suc-le-suc h)

-- a test passes at each number below n
abbrev pub passes : (ℕ → Bool) → ℕ → Bool
passes p zero = true
passes p (suc n) = p n && passes p n

pub passes_at : (p : ℕ → Bool) (n k : ℕ) → passes p n ≡ true → k < n → p k ≡ true
passes_at p zero k e h = absurd (not-suc-le-zero h)
passes_at p (suc n) k e h = by (λ l. passes_at p n k (both (p n) (passes p n) e).1 l) (eqb k n) refl
  where
    by : (k < n → p k ≡ true) → (t : Bool) → eqb k n ≡ t → p k ≡ true
    by before true t = ap p (eqb-true k n t) ∙ (both (p n) (passes p n) e).0
    by before false t = let other : k ≡ n → ⊥ = eqb-false k n t in before (omega arith)

-- the two sizes are the list's
pub sizes : Sizes
sizes = record {
  counted = refl;
  mapped = λ i h. ltb-true _ _ (passes_at (λ (k : ℕ). ltb (item_at k).register map_size) items i refl h);
}
