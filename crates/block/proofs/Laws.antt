-- What a caller may rely on. Where a block meets no number its value may be stored in its item, and else its number is one of 11
-- to 18. A verdict tells which of the two it is.
-- Assumes nothing.
use mathlib.Core.Path.{◌≡◌, refl, sym, ap, ap₂}
use mathlib.Core.Bool.{Bool, true, false, not, ◌&&◌, ◌||◌}
use mathlib.Core.List.{List, [], ◌∷◌}
use Prim.Native.Nat.{ℕ, ◌<◌, ◌≤◌}
use native.Mathlib.Omega.{arith}
use borrow.Author.Tests.{eqb-false, leb-true, ltb-true, ltb-false}
use lib.Dec.{leb, ltb, eqb}
use lib.IntN.{ℤ}
use Rattle.std.specs.Prelude.{Ok, Err}
use Rattle.numbers.specs.declared.Refusal.{Refusal}
use Rattle.numbers.specs.Numbers.{none, unless, first_met}
use Rattle.numbers.specs.Refusals.{number_of}
use Rattle.numbers.proofs.Refusals.{refusal-met, same-refusal}
use Rattle.numbers.proofs.Tests.{both, chosen}
use Rattle.numbers.proofs.Order.{each, none-at, test-held}
use Rattle.numbers.proofs.Single.{single}
use Rattle.line.specs.Line.{is_line_error}
use Rattle.items.specs.ItemList.{items, item_at, by_xu, decimals_of, in_range}
use Rattle.items.proofs.Lists.{passes_at, line-past}
use Rattle.text.specs.Numbers.{width, most_decimals, over_six_characters, no_number}
use Rattle.text.proofs.Readings.{few-numbers}
use Rattle.block.specs.Block.{line_error, wrong_bcc, under_two, unknown_identifier, read_only, out_of_range, identifier_length, most_kept, block_item, block_decimals, data_characters, block_value, block_numbers, block_number, Verdict, Judges}
use Rattle.block.specs.declared.Setting.{Setting}

-- the item at this place may take this value
pub record Storable (i : ℕ) (v : ℤ) : Type 0 where
  pub listed : i < items
  pub writable : (item_at i).writable ≡ true
  pub ranged : in_range i v ≡ true

-- this number is one of a block's, 11 to 18
pub record Refusing (n : ℕ) : Type 0 where
  pub least : line_error ≤ n
  pub most : n ≤ out_of_range

-- no line of the list has more decimals than the mark, and neither has what stands past it
listed-decimals : (i : ℕ) → (item_at i).decimals ≤ by_xu
listed-decimals i = by (ltb i items) refl
  where
    by : (b : Bool) → ltb i items ≡ b → (item_at i).decimals ≤ by_xu
    by true e = leb-true _ _ (passes_at (λ (k : ℕ). leb (item_at k).decimals by_xu) items i refl (ltb-true i items e))
    by false e = rw (line-past i (ltb-false i items e)) (omega arith)

-- so number text takes the decimals of every item, where it takes those that XU gives
pub few-decimals : (xu i : ℕ) → xu ≤ most_decimals → decimals_of xu i ≤ most_decimals
unfolding decimals_of
few-decimals xu i few =
    chosen (λ (d : ℕ). d ≤ most_decimals) (eqb (item_at i).decimals by_xu) (λ _. few)
    (λ e. let other = eqb-false (item_at i).decimals by_xu e in let most = listed-decimals i in omega arith)

-- ---- the first of several numbers

-- what holds of each, and of none, holds of the first that is met
infixr 40 ◌then◌
data Each (P : ℕ → Type 0) : List ℕ → Type 0 where
  end : P none → Each P []
  ◌then◌ : {n : ℕ} {ns : List ℕ} → P n → Each P ns → Each P (n ∷ ns)

first-each : (P : ℕ → Type 0) (ns : List ℕ) → Each P ns → P (first_met ns)
first-each P [] (end p) = p
first-each P (n ∷ ns) (p then e) = each n ns P p (first-each P ns e)

-- ---- the number of a block

-- a number of a block, if it is met
abbrev IfMet : ℕ → Type 0
IfMet n = (n ≡ none → ⊥) → Refusing n

not-met : IfMet none
not-met h = absurd (h refl)

numbered : (n : ℕ) → (leb line_error n && leb n out_of_range) ≡ true → IfMet n
numbered n e h =
    let p = both (leb line_error n) (leb n out_of_range) e in
    record { least = leb-true line_error n p.0; most = leb-true n out_of_range p.1 }

tested : (test : Bool) (n : ℕ) → (leb line_error n && leb n out_of_range) ≡ true → IfMet (unless test n)
tested true n e = not-met
tested false n e = numbered n e

module _ (xu : ℕ) (mark : Bool) (bcc count : ℕ) (kept : List ℕ) (c : ℕ) where
  pub block-stores : block_number xu mark bcc count kept c ≡ none → Storable (block_item kept) (block_value xu count kept)
  unfolding block_number
  block-stores e =
      let ns = block_numbers xu mark bcc count kept c in
      record {
        listed = ltb-true _ _ (test-held _ unknown_identifier (omega arith) (none-at ns 3 e));
        writable = test-held _ read_only (omega arith) (none-at ns 6 e);
        ranged = test-held _ out_of_range (omega arith) (none-at ns 7 e);
      }

  pub block-refuses : xu ≤ most_decimals → (block_number xu mark bcc count kept c ≡ none → ⊥) → Refusing (block_number xu mark bcc count kept c)
  unfolding block_number
  block-refuses few =
      let text = few-numbers IfMet not-met (numbered no_number refl) (numbered over_six_characters refl) in
      first-each IfMet (block_numbers xu mark bcc count kept c)
      (tested (not (mark || is_line_error c)) line_error refl
      then tested (eqb c bcc) wrong_bcc refl
      then tested (leb identifier_length count) under_two refl
      then tested (ltb (block_item kept) items) unknown_identifier refl
      then tested (leb count most_kept) over_six_characters refl
      then text width (block_decimals xu kept) (data_characters count kept) (few-decimals xu (block_item kept) few)
      then tested (item_at (block_item kept)).writable read_only refl
      then tested (in_range (block_item kept) (block_value xu count kept)) out_of_range refl
      then end not-met)

  -- ---- what a verdict tells of it

  -- a value to store: no number is met, and item and value are the block's
  pub stores : (s : Setting) → Judges xu mark bcc count kept c (Ok s)
      → (block_number xu mark bcc count kept c ≡ none) × (s.place ≡ block_item kept) × (s.value ≡ block_value xu count kept)
  stores s j = let z = sym j.number in (z, rw z at j.item, rw z at j.value)

  -- a refusal: the block's number, which is met
  pub refuses : (r : Refusal) → Judges xu mark bcc count kept c (Err r)
      → (block_number xu mark bcc count kept c ≡ number_of r) × (number_of r ≡ none → ⊥)
  refuses r j = (sym j.number, refusal-met r)

  -- so two verdicts on one block are the same
  pub one-verdict : (r s : Verdict) → Judges xu mark bcc count kept c r → Judges xu mark bcc count kept c s → r ≡ s
  one-verdict (Ok s) (Ok t) p q =
      ap₂ (λ (i : ℕ) (v : ℤ). Ok (record { place = i; value = v })) (single p.item q.item) (single p.value q.value)
  one-verdict (Err r) (Err s) p q = ap Err (same-refusal (single p.number q.number))
  one-verdict (Ok s) (Err r) p q = absurd (refusal-met r (single q.number p.number))
  one-verdict (Err r) (Ok s) p q = absurd (refusal-met r (single p.number q.number))
