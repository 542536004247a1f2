-- What becomes of a whole block of the RKC line: the number that refuses it, the first of document 01's 11 to 18 that is met, or
-- else the item that takes a value, and that value.
use Rattle.std.specs.Prelude.{ℕ, ◌+◌, ◌≡◌, Bool, not, ◌||◌, List, [], ◌∷◌, eqb, leb, ltb, ℤ, pos, get_or, take, drop, Result, Ok, Err}
use Rattle.numbers.specs.declared.Refusal.{Refusal}
use Rattle.numbers.specs.Numbers.{unless, first_met, unless_met}
use Rattle.numbers.specs.Refusals.{number_given}
use Rattle.line.specs.Line.{is_line_error}
use Rattle.items.specs.ItemList.{items, item_at, decimals_of, found, place_found, in_range}
use Rattle.text.specs.Numbers.{width, over_six_characters}
use Rattle.text.specs.Reading.{read_number, read_value}
use Rattle.block.specs.declared.Setting.{Setting}

-- the numbers that refuse a block; 15 and 16, for its number text, are text's
abbrev pub line_error : ℕ
line_error = 11

abbrev pub wrong_bcc : ℕ
wrong_bcc = 12

abbrev pub under_two : ℕ
under_two = 13

abbrev pub unknown_identifier : ℕ
unknown_identifier = 14

abbrev pub read_only : ℕ
read_only = 17

abbrev pub out_of_range : ℕ
out_of_range = 18

-- how many characters an identifier has; a block keeps it and a number
abbrev pub identifier_length : ℕ
identifier_length = 2

abbrev pub most_kept : ℕ
most_kept = identifier_length + width

-- ---- what a block says, from the count of its characters and those kept

-- the place of the item that the first two name, past the list where they name none
unfoldable pub block_item : List ℕ → ℕ
block_item kept = place_found (found (get_or kept 0 0) (get_or kept 1 0))

-- the decimals that its number text is read with, where XU gives so many
abbrev pub block_decimals : ℕ → List ℕ → ℕ
block_decimals xu kept = decimals_of xu (block_item kept)

-- the data characters: the kept ones after the identifier, up to the count
abbrev pub data_characters : ℕ → List ℕ → List ℕ
data_characters count kept = drop identifier_length (take count kept)

-- the value that they write
unfoldable pub block_value : ℕ → ℕ → List ℕ → ℤ
block_value xu count kept = read_value width (block_decimals xu kept) (data_characters count kept)

-- ---- its number

-- The numbers that a block can meet, in the order in which they are tried: by the decimals that XU gives, whether it was marked, the
-- BCC of its text and ETX, the count of its characters, those kept, and what was heard in the BCC's place.
abbrev pub block_numbers : ℕ → Bool → ℕ → ℕ → List ℕ → ℕ → List ℕ
block_numbers xu mark bcc count kept c =
    unless (not (mark || is_line_error c)) line_error
    ∷ unless (eqb c bcc) wrong_bcc
    ∷ unless (leb identifier_length count) under_two
    ∷ unless (ltb (block_item kept) items) unknown_identifier
    ∷ unless (leb count most_kept) over_six_characters
    ∷ read_number width (block_decimals xu kept) (data_characters count kept)
    ∷ unless (item_at (block_item kept)).writable read_only
    ∷ unless (in_range (block_item kept) (block_value xu count kept)) out_of_range
    ∷ []

unfoldable pub block_number : ℕ → Bool → ℕ → ℕ → List ℕ → ℕ → ℕ
block_number xu mark bcc count kept c = first_met (block_numbers xu mark bcc count kept c)

-- ---- the verdict

-- what becomes of a block: the item at a place takes a value, or the block is refused
abbrev pub Verdict : Type 0
Verdict = Result Setting Refusal

-- the place of its item, past the list where it has none; its value, 0 where it has none
abbrev pub verdict_item : Verdict → ℕ
verdict_item (Ok setting) = setting.place
verdict_item (Err refusal) = items

abbrev pub verdict_value : Verdict → ℤ
verdict_value (Ok setting) = setting.value
verdict_value (Err refusal) = pos 0

-- what is promised of a verdict: it has the block's number, and the block's item and value where no number is met
pub record Judges (xu : ℕ) (mark : Bool) (bcc count : ℕ) (kept : List ℕ) (c : ℕ) (r : Verdict) : Type 0 where
  pub number : number_given r ≡ block_number xu mark bcc count kept c
  pub item : verdict_item r ≡ unless_met (block_number xu mark bcc count kept c) (λ n. items) (block_item kept)
  pub value : verdict_value r ≡ unless_met (block_number xu mark bcc count kept c) (λ n. pos 0) (block_value xu count kept)
