-- The numbers that a byte call and an idle call give, and a call for each of them.
use Rattle.std.specs.Prelude.{Bool, true, false, ◌||◌, List, [], ◌∷◌, ℕ, eqb, ℤ, pos, replicate}
use Rattle.numbers.specs.Numbers.{least_buffer}
use Rattle.items.specs.ItemList.{items}
use Rattle.table.specs.Table.{start_values}
use Rattle.line.specs.Line.{ENQ, ACK}
use Rattle.phases.specs.Phases.{rest, bcc_due}
use Rattle.rkc.specs.declared.Link.{Link}
use Rattle.rkc.specs.State.{filled, none_kept, in_phase, holding_one, holding_two, waiting_on, block, most_counted}
use Rattle.rkc.specs.Outcome.{ByteCall, IdleCall}

-- n is one of these
abbrev pub one_of : List ℕ → ℕ → Bool
one_of [] n = false
one_of (m ∷ ms) n = eqb n m || one_of ms n

-- ---- one received byte

-- the caller's faults, and what is given where he made none
abbrev pub byte_faults : List ℕ
byte_faults = 1 ∷ 2 ∷ 3 ∷ 4 ∷ 5 ∷ []

abbrev pub byte_numbers : List ℕ
byte_numbers = 0 ∷ 11 ∷ 12 ∷ 13 ∷ 14 ∷ 15 ∷ 16 ∷ 17 ∷ 18 ∷ 41 ∷ 42 ∷ 43 ∷ 45 ∷ []

-- a buffer that has room for every reply
abbrev enough : List ℕ
enough = replicate least_buffer 0

-- a byte 0 at rest, with this table, buffer and address
abbrev lent : List ℤ → List ℕ → ℕ → ByteCall
lent t buffer address =
    record { link = in_phase rest; table = t; buffer = buffer; address = address; structure = 0; time = 0; byte = 0 }

-- a byte in a state
abbrev heard_in : Link → ℕ → ByteCall
heard_in l byte =
    record { link = l; table = start_values; buffer = enough; address = 1; structure = 0; time = 0; byte = byte }

-- a block of three characters at most whose BCC is due and is 0
abbrev due : ℕ → ℕ → ℕ → ℕ → Link
due count a b c = block bcc_due count 0 false (filled (a ∷ b ∷ c ∷ []))

-- A call for each number, in the order of the two lists. The faults: no table; PR at 0, which is from 500 on; no buffer; address
-- 100; phase 10. The others: a byte at rest; a marked block; BCC 1 for 0; no text; no item; "PB" with more than six characters,
-- and with none; "M1" and "PR" with "0"; ENQ after one character; no item polled; a byte that isn't awaited; ACK after the last item
unfoldable pub byte_examples : List ByteCall
byte_examples =
    lent [] enough 1
    ∷ lent (replicate items (pos 0)) enough 1
    ∷ lent start_values [] 1
    ∷ lent start_values enough 100
    ∷ heard_in (in_phase 10) 0
    ∷ heard_in (in_phase rest) 0
    ∷ heard_in (block bcc_due 0 0 true none_kept) 0
    ∷ heard_in (due 0 0 0 0) 1
    ∷ heard_in (due 0 0 0 0) 0
    ∷ heard_in (due 2 0 0 0) 0
    ∷ heard_in (due most_counted 0x50 0x42 0x30) 0
    ∷ heard_in (due 2 0x50 0x42 0) 0
    ∷ heard_in (due 3 0x4D 0x31 0x30) 0
    ∷ heard_in (due 3 0x50 0x52 0x30) 0
    ∷ heard_in (holding_one 0x50) ENQ
    ∷ heard_in (holding_two 0 0) ENQ
    ∷ heard_in (waiting_on 1 0) 0
    ∷ heard_in (waiting_on items 0) ACK
    ∷ []

-- ---- an idle call

abbrev pub idle_faults : List ℕ
idle_faults = 3 ∷ 4 ∷ 5 ∷ []

abbrev pub idle_numbers : List ℕ
idle_numbers = 0 ∷ 44 ∷ []

abbrev in_buffer : List ℕ → ℕ → Link → IdleCall
in_buffer buffer structure l = record { link = l; buffer = buffer; structure = structure; time = 3000 }

-- no buffer; structure 3; phase 10; at rest; waited on since 0
unfoldable pub idle_examples : List IdleCall
idle_examples =
    in_buffer [] 0 (in_phase rest)
    ∷ in_buffer enough 3 (in_phase rest)
    ∷ in_buffer enough 0 (in_phase 10)
    ∷ in_buffer enough 0 (in_phase rest)
    ∷ in_buffer enough 0 (waiting_on 1 0)
    ∷ []
