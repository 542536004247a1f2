-- Which verdict the numbers of a block come to: a law for each way out of `judge`.
-- Assumes nothing.
use mathlib.Core.Path.{◌≡◌, refl, sym, ap, ap₂, ◌∙◌}
use mathlib.Core.Bool.{Bool, true, false, ◌||◌}
use mathlib.Core.List.{List}
use Prim.Native.Nat.{ℕ, ◌+◌, ◌-◌, ◌<◌, ◌≤◌}
use native.Mathlib.Omega.{arith}
use borrow.Author.Tests.{lt-ltb, le-leb, lt-leb, eq-eqb, ne_eqb}
use lib.IntN.{ℤ}
use lib.ListN.{length, get_or, take, drop}
use lib.Seq.{length-take-le, take-add, drop_at}
use Rattle.std.specs.Prelude.{Some, None, Result, Ok, Err}
use Rattle.numbers.specs.declared.Refusal.{Refusal}
use Rattle.numbers.specs.declared.Refusal.TheVariants.{LineError, WrongBcc, UnderTwo, UnknownIdentifier, OverSixCharacters, ReadOnly, OutOfRange}
use Rattle.numbers.specs.Numbers.{none, first_met}
use Rattle.numbers.specs.Refusals.{number_of}
use Rattle.numbers.proofs.Refusals.{refusal-met}
use Rattle.line.specs.Line.{is_line_error}
use Rattle.items.specs.ItemList.{items, item_at, decimals_of, found, in_range}
use Rattle.items.proofs.Lookup.{found-place}
use Rattle.text.specs.Numbers.{width}
use Rattle.text.specs.Reading.{ReadAs}
use Rattle.text.proofs.Readings.{read_by}
use Rattle.block.specs.Block.{identifier_length, most_kept, block_item, block_decimals, data_characters, block_value, block_numbers, block_number, Judges}
use Rattle.block.specs.declared.Setting.{Setting}

-- the data characters are what is kept past the identifier, as many as the count has more
data-part : (count : ℕ) (kept : List ℕ) → identifier_length ≤ count → identifier_length ≤ length kept
    → take (count - identifier_length) (drop identifier_length kept) ≡ data_characters count kept
data-part count kept h k =
    let more = count - identifier_length in
    let e : identifier_length + more ≡ count = omega arith in
    let name = take identifier_length kept in
    sym (drop_at name (take more (drop identifier_length kept)) identifier_length (length-take-le identifier_length kept k))
    ∙ ap (drop identifier_length) (sym (take-add identifier_length more kept) ∙ ap (λ (n : ℕ). take n kept) e)

-- the first two characters name the item at this place of the list
module _ (kept : List ℕ) (i : ℕ) (e : found (get_or kept 0 0) (get_or kept 1 0) ≡ Some i) where
  place : block_item kept ≡ i
  unfolding block_item
  place = rw e

  listed : block_item kept < items
  listed = rw place (found-place (get_or kept 0 0) (get_or kept 1 0) i e).0

-- 11 to 14 are not met: the block has come to its item
pub record Named (mark : Bool) (bcc count : ℕ) (kept : List ℕ) (c : ℕ) : Type 0 where
  pub heard : (mark || is_line_error c) ≡ false
  pub same : c ≡ bcc
  pub two : identifier_length ≤ count
  pub item : block_item kept < items

-- nor are 15 and 16: it has a value for the item
pub record Valued (xu count : ℕ) (kept : List ℕ) (v : ℤ) : Type 0 where
  pub whole : count ≤ most_kept
  pub read : ReadAs width (block_decimals xu kept) (data_characters count kept) (Ok v)

-- the numbers from the data characters on decide
reached : (xu : ℕ) {mark : Bool} {bcc count : ℕ} {kept : List ℕ} {c : ℕ} → Named mark bcc count kept c
    → block_number xu mark bcc count kept c ≡ first_met (drop 4 (block_numbers xu mark bcc count kept c))
unfolding block_number
reached xu {mark} {bcc} {count} {kept} {c} n =
    rw (n.heard, eq-eqb c bcc n.same, le-leb identifier_length count n.two, lt-ltb (block_item kept) items n.item)

module _ {xu : ℕ} {mark : Bool} {bcc count : ℕ} {kept : List ℕ} {c : ℕ} where
  refused : (r : Refusal) → block_number xu mark bcc count kept c ≡ number_of r → Judges xu mark bcc count kept c (Err r)
  refused r e = let met = ne_eqb (number_of r) none (refusal-met r) in record { number = sym e; item = rw (e, met); value = rw (e, met) }

  -- ---- before the item is known

  pub marked : (mark || is_line_error c) ≡ true → Judges xu mark bcc count kept c (Err LineError)
  unfolding block_number
  marked h = refused LineError (rw h)

  module _ (heard : (mark || is_line_error c) ≡ false) where
    pub wrong : (c ≡ bcc → ⊥) → Judges xu mark bcc count kept c (Err WrongBcc)
    unfolding block_number
    wrong h = refused WrongBcc (rw (heard, ne_eqb c bcc h))

    pub short : c ≡ bcc → count < identifier_length → Judges xu mark bcc count kept c (Err UnderTwo)
    unfolding block_number
    short e h = refused UnderTwo (rw (heard, eq-eqb c bcc e, lt-leb identifier_length count h))

    pub unknown : c ≡ bcc → identifier_length ≤ count → found (get_or kept 0 0) (get_or kept 1 0) ≡ None
        → Judges xu mark bcc count kept c (Err UnknownIdentifier)
    unfolding block_number block_item
    unknown e h n = refused UnknownIdentifier (rw (heard, eq-eqb c bcc e, le-leb identifier_length count h, n))

  -- ---- for its item

  module _ (n : Named mark bcc count kept c) where
    too_long : most_kept < count → Judges xu mark bcc count kept c (Err OverSixCharacters)
    too_long h = refused OverSixCharacters (reached xu n ∙ rw (lt-leb count most_kept h))

    no_value : count ≤ most_kept → {r : Refusal} → ReadAs width (block_decimals xu kept) (data_characters count kept) (Err r)
        → Judges xu mark bcc count kept c (Err r)
    no_value whole {r} read =
        refused r (reached xu n ∙ rw (le-leb count most_kept whole, ← read.number, ne_eqb (number_of r) none (refusal-met r)))

    -- ---- with its value

    module _ {v : ℤ} (e : Valued xu count kept v) where
      same-value : v ≡ block_value xu count kept
      unfolding block_value
      same-value = e.read.value

      -- the item's kind and range decide
      valued : block_number xu mark bcc count kept c ≡ first_met (drop 6 (block_numbers xu mark bcc count kept c))
      valued = reached xu n ∙ rw (le-leb count most_kept e.whole, ← e.read.number)

      read-only : (item_at (block_item kept)).writable ≡ false → Judges xu mark bcc count kept c (Err ReadOnly)
      read-only w = refused ReadOnly (valued ∙ rw w)

      module _ (w : (item_at (block_item kept)).writable ≡ true) where
        outside_range : in_range (block_item kept) v ≡ false → Judges xu mark bcc count kept c (Err OutOfRange)
        outside_range k = refused OutOfRange (valued ∙ rw (w, ← same-value, k))

        pub stored : in_range (block_item kept) v ≡ true → {s : Setting} → s.place ≡ block_item kept → s.value ≡ v
            → Judges xu mark bcc count kept c (Ok s)
        stored k p q =
            let z : block_number xu mark bcc count kept c ≡ none = valued ∙ rw (w, ← same-value, k) in
            record { number = sym z; item = p ∙ rw z; value = q ∙ same-value ∙ rw z }

-- ---- by what the code has: the item that was found, and the reading of the part that was lent

module _ (kept : List ℕ) (i : ℕ) (f : found (get_or kept 0 0) (get_or kept 1 0) ≡ Some i) where
  -- the part has the data characters, and the item's decimals are the block's
  data-read : (xu count : ℕ) {d : ℕ} {cs : List ℕ} {r : Result ℤ Refusal} → identifier_length ≤ count → length kept ≡ most_kept
      → ReadAs width d cs r → d ≡ decimals_of xu i → cs ≡ take (count - identifier_length) (drop identifier_length kept)
      → ReadAs width (block_decimals xu kept) (data_characters count kept) r
  data-read xu count two all read p q =
      read_by (p ∙ ap (decimals_of xu) (sym (place kept i f))) (q ∙ data-part count kept two (omega arith)) refl read

  -- the item's kind and range are those at its place
  kind : {b : Bool} → b ≡ (item_at i).writable → (item_at (block_item kept)).writable ≡ b
  kind w = ap (λ (k : ℕ). (item_at k).writable) (place kept i f) ∙ sym w

  ranged : {v u : ℤ} {b : Bool} → u ≡ v → b ≡ in_range i u → in_range (block_item kept) v ≡ b
  ranged z e = ap₂ in_range (place kept i f) (sym z) ∙ sym e

  module _ {mark : Bool} {bcc count : ℕ} {c : ℕ} (heard : (mark || is_line_error c) ≡ false) (same : c ≡ bcc)
      (two : identifier_length ≤ count) where
    named : Named mark bcc count kept c
    named = record { heard = heard; same = same; two = two; item = listed kept i f }

module _ {xu : ℕ} {mark : Bool} {bcc count : ℕ} {kept : List ℕ} {c : ℕ} (heard : (mark || is_line_error c) ≡ false) (same : c ≡ bcc)
    (two : identifier_length ≤ count) {i : ℕ} (f : found (get_or kept 0 0) (get_or kept 1 0) ≡ Some i) where
  pub long : most_kept < count → Judges xu mark bcc count kept c (Err OverSixCharacters)
  long = too_long (named kept i f heard same two)

  module _ (whole : count ≤ most_kept) (all : length kept ≡ most_kept) {d : ℕ} {cs : List ℕ} (p : d ≡ decimals_of xu i)
      (q : cs ≡ take (count - identifier_length) (drop identifier_length kept)) where
    pub unread : {e : Refusal} → ReadAs width d cs (Err e) → Judges xu mark bcc count kept c (Err e)
    unread read = no_value (named kept i f heard same two) whole (data-read kept i f xu count two all read p q)

    module _ {v : ℤ} (read : ReadAs width d cs (Ok v)) where
      pub protected : false ≡ (item_at i).writable → Judges xu mark bcc count kept c (Err ReadOnly)
      protected w =
          read-only (named kept i f heard same two) (record { whole = whole; read = data-read kept i f xu count two all read p q }) (kind kept i f w)

      module _ (w : true ≡ (item_at i).writable) {u : ℤ} (z : u ≡ v) where
        pub out : false ≡ in_range i u → Judges xu mark bcc count kept c (Err OutOfRange)
        out k =
            outside_range (named kept i f heard same two) (record { whole = whole; read = data-read kept i f xu count two all read p q })
            (kind kept i f w) (ranged kept i f z k)

        pub set : true ≡ in_range i u → Judges xu mark bcc count kept c (Ok (record { place = i; value = u }))
        set k =
            stored (named kept i f heard same two) (record { whole = whole; read = data-read kept i f xu count two all read p q })
            (kind kept i f w) (ranged kept i f z k) (sym (place kept i f)) z
