-- The decimal point chosen on site: XU gives the decimals of M1, S1, A1 and A2 on the RKC line, in both directions, and moves nothing but
-- their point. What it leaves alone on the Modbus lines is claimed in `settings`.
use Rattle.std.specs.Prelude.{◌≡◌, ◌≢◌, true, false, List, [], ◌∷◌, ◌++◌, map, ℕ, ◌<◌, ◌≤◌, ℤ, pos}
use Rattle.numbers.specs.Numbers.{none}
use Rattle.items.specs.ItemList.{items, item_at, identifier_of, decimals_of}
use Rattle.table.specs.Table.{entry, M1, XU, good_table, start_values, stored, SameButXU}
use Rattle.line.specs.Line.{ACK, is_line_error}
use Rattle.text.specs.Numbers.{width, most_decimals}
use Rattle.text.specs.Writing.{written}
use Rattle.text.specs.Demands.{without_point, RoundTrip}
use Rattle.phases.specs.Phases.{bcc_due, answered}
use Rattle.block.specs.Block.{most_kept, block_item, block_decimals}
use Rattle.rkc.specs.declared.Link.{Link}
use Rattle.rkc.specs.State.{filled, in_phase, block}
use Rattle.rkc.specs.Outcome.{item_text, item_sent, keeping, sends, judged, ByteCall, received}

-- the number text of an item's stored number, where XU gives so many decimals
abbrev pub text_at : ℕ → List ℤ → ℕ → List ℕ
text_at xu t i = (written width (decimals_of xu i) (entry t i)).chars

-- a block with an item's identifier and its number text, whose BCC is due
abbrev pub echoed : List ℤ → ℕ → ℕ → Link
echoed t i bcc = block bcc_due most_kept bcc false (identifier_of (item_at i) ++ (item_text t i).chars)

-- what is claimed of the point, in every table that is good and at every XU
pub record OfPoint : Type 0 where
  -- the stored number of an item is written at each XU, and its text, read back at that XU, is the stored number
  pub reads_back : (t : List ℤ) (i xu : ℕ) → good_table t ≡ true → i < items → xu ≤ most_decimals
      → RoundTrip width (decimals_of xu i) (entry t i)
  -- with the point taken out, that text has the same characters at each XU from 1 to 3
  pub same_digits : (t : List ℤ) (i xu other : ℕ) → good_table t ≡ true → i < items → 1 ≤ xu → xu ≤ most_decimals → 1 ≤ other → other ≤ most_decimals
      → without_point (text_at xu t i) ≡ without_point (text_at other t i)
  -- an item that is asked for is always sent
  pub always_sent : (structure time : ℕ) (t : List ℤ) (i : ℕ) → good_table t ≡ true → i < items → (item_sent structure time t i).number ≡ none
  -- what a poll of a writable item sends, sent back in a block, is acknowledged and leaves the table as it is
  pub sent_back : (structure : ℕ) (t : List ℤ) (i bcc : ℕ) → good_table t ≡ true → (item_at i).writable ≡ true → is_line_error bcc ≡ false
      → judged structure t (echoed t i bcc) bcc ≡ keeping t (sends structure ACK (in_phase answered) none)
  -- a block to XU is itself read at no decimals, whatever XU is before it, and changes no other entry, accepted or not
  pub itself : (xu : ℕ) (kept : List ℕ) → block_item kept ≡ XU → block_decimals xu kept ≡ 0
  pub block_alone : (structure : ℕ) (t : List ℤ) (l : Link) (c : ℕ) → good_table t ≡ true → block_item l.kept ≡ XU
      → SameButXU t (judged structure t l c).table
  -- so a byte that changes XU changes no other entry, and no lamp
  pub changes_alone : (call : ByteCall) → good_table call.table ≡ true → entry (received call).table XU ≢ entry call.table XU
      → SameButXU call.table (received call).table

-- ---- examples at each XU

abbrev pub each_xu : List ℕ
each_xu = 0 ∷ 1 ∷ 2 ∷ 3 ∷ []

-- the start values, with XU stored
abbrev pub start_at : ℕ → List ℤ
start_at xu = stored start_values XU (pos xu)

-- a block of "S112", with a BCC of 0 due; S1 is at place 5
abbrev pub s1_twelve : Link
s1_twelve = block bcc_due 4 0 false (filled (0x53 ∷ 0x31 ∷ 0x31 ∷ 0x32 ∷ []))

abbrev pub S1 : ℕ
S1 = 5

-- S1 "12" stores 12, 120 and 1200, and at 3 is 18; M1 1005 is sent "001005", "0100.5", "010.05" and "01.005"
pub record PointExamples : Type 0 where
  pub numbers : map (λ (xu : ℕ). (judged 0 (start_at xu) s1_twelve 0).step.number) each_xu ≡ 0 ∷ 0 ∷ 0 ∷ 18 ∷ []
  pub entries : map (λ (xu : ℕ). entry (judged 0 (start_at xu) s1_twelve 0).table S1) each_xu ≡ pos 12 ∷ pos 120 ∷ pos 1200 ∷ pos 0 ∷ []
  pub texts : map (λ (xu : ℕ). (item_text (stored (start_at xu) M1 (pos 1005)) M1).chars) each_xu
      ≡ (0x30 ∷ 0x30 ∷ 0x31 ∷ 0x30 ∷ 0x30 ∷ 0x35 ∷ [])
      ∷ (0x30 ∷ 0x31 ∷ 0x30 ∷ 0x30 ∷ 0x2E ∷ 0x35 ∷ [])
      ∷ (0x30 ∷ 0x31 ∷ 0x30 ∷ 0x2E ∷ 0x30 ∷ 0x35 ∷ [])
      ∷ (0x30 ∷ 0x31 ∷ 0x2E ∷ 0x30 ∷ 0x30 ∷ 0x35 ∷ [])
      ∷ []
