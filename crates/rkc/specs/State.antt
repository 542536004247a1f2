-- The states of the link: what each phase uses, and the limits of it.
use Rattle.std.specs.Prelude.{ℕ, ◌+◌, ◌-◌, Bool, false, cond, ◌&&◌, ◌||◌, List, [], ◌∷◌, ◌++◌, length, replicate, ◌==◌, bit_xor, nat_le, nat_lt, slice_index, slice_set}
use Rattle.std.specs.List.{list_all}
use Rattle.kept.specs.Kept.{up_to}
use Rattle.items.specs.ItemList.{listed}
use Rattle.line.specs.Line.{ETX, top_bit, low_seven, is_line_error, within}
use Rattle.phases.specs.Phases.{one_character, two_characters, waiting, text, bcc_due, answered}
use Rattle.block.specs.Block.{most_kept}
use Rattle.rkc.specs.declared.Link.{Link}

-- the kept characters, and 0 in each place after them
abbrev pub filled : List ℕ → List ℕ
filled cs = cs ++ replicate (most_kept - length cs) 0

-- no characters
abbrev pub none_kept : List ℕ
none_kept = filled []

-- a phase that uses nothing
abbrev pub in_phase : ℕ → Link
in_phase phase = record { phase = phase; item = 0; count = 0; bcc = 0; mark = false; kept = none_kept; time = 0 }

-- the identifier phases use only their one or two kept characters
abbrev pub holding_one : ℕ → Link
holding_one a =
    record { phase = one_character; item = 0; count = 0; bcc = 0; mark = false; kept = filled (a ∷ []); time = 0 }

abbrev pub holding_two : ℕ → ℕ → Link
holding_two a b =
    record { phase = two_characters; item = 0; count = 0; bcc = 0; mark = false; kept = filled (a ∷ b ∷ []); time = 0 }

-- waiting uses item and time
abbrev pub waiting_on : ℕ → ℕ → Link
waiting_on item time = record { phase = waiting; item = item; count = 0; bcc = 0; mark = false; kept = none_kept; time = time }

-- text and BCC due use count, BCC, mark and kept characters
abbrev pub block : ℕ → ℕ → ℕ → Bool → List ℕ → Link
block phase count bcc mark kept =
    record { phase = phase; item = 0; count = count; bcc = bcc; mark = mark; kept = kept; time = 0 }

-- a block is open, or its BCC is due
abbrev pub in_block : ℕ → Bool
in_block phase = within text bcc_due phase

-- what text and BCC due use of a state
abbrev pub as_block : Link → Link
as_block l = block l.phase l.count l.bcc l.mark (up_to l.count l.kept)

-- the state with all that its phase doesn't use at 0
unfoldable pub used : Link → Link
used l =
    cond (l.phase == one_character) (holding_one (slice_index l.kept 0))
    (cond (l.phase == two_characters) (holding_two (slice_index l.kept 0) (slice_index l.kept 1))
    (cond (l.phase == waiting) (waiting_on l.item l.time)
    (cond (in_block l.phase) (as_block l)
    (in_phase l.phase))))

-- ---- limits

-- no byte of 80H up
abbrev pub is_character : ℕ → Bool
is_character c = nat_lt c top_bit

abbrev pub all_characters : List ℕ → Bool
all_characters = list_all is_character

-- the count stops at one more than are kept, which tells that a block is too long
abbrev pub most_counted : ℕ
most_counted = most_kept + 1

abbrev pub block_in_limits : Link → Bool
block_in_limits l = nat_le l.count most_counted && (is_character l.bcc && all_characters (up_to l.count l.kept))

-- a known phase, a waiting item of the list, a count up to the most, no kept character or BCC of 80H up: as far as the phase
-- uses them
unfoldable pub in_limits : Link → Bool
in_limits l =
    cond (l.phase == one_character) (is_character (slice_index l.kept 0))
    (cond (l.phase == two_characters) (is_character (slice_index l.kept 0) && is_character (slice_index l.kept 1))
    (cond (l.phase == waiting) (listed l.item)
    (cond (in_block l.phase) (block_in_limits l)
    (nat_le l.phase answered))))

-- ---- a block's text

-- one more is counted, up to the most
abbrev pub one_more : ℕ → ℕ
one_more count = cond (nat_lt count most_counted) (count + 1) most_counted

-- one more character of the text, as it was heard: counted, kept in its place if there is one left, taken into the BCC
-- as its low seven bits; a line error marks the block
unfoldable pub with_more : Link → ℕ → Link
with_more l c =
    block text (one_more l.count) (bit_xor l.bcc (low_seven c)) (l.mark || is_line_error c) (slice_set l.kept l.count (low_seven c))

-- ETX ends the text and is the last taken into the BCC
unfoldable pub with_end : Link → Link
with_end l = block bcc_due l.count (bit_xor l.bcc ETX) l.mark l.kept
