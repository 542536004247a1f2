-- The starred examples of document 01 as one table: each line has what is done and what the document says comes of it. `made` is
-- what the definitions that the promises cite make of it, and proofs/Starred.antt shows that the two agree in every line.
use Rattle.std.specs.Prelude.{Bool, true, cond, List, [], ◌∷◌, ◌++◌, ℕ, eqb, ℤ, pos, get_or, replicate}
use Prim.Native.String.{String}
use Rattle.numbers.specs.Numbers.{least_buffer, unless_met}
use Rattle.sign.specs.Sign.{minus}
use Rattle.items.specs.ItemList.{found, place_found}
use Rattle.table.specs.Table.{start_values, entry}
use Rattle.line.specs.Line.{STX, ETX, EOT, ACK, sent, bcc}
use Rattle.text.specs.Numbers.{width}
use Rattle.text.specs.Writing.{written}
use Rattle.text.specs.Writing.{Written}
use Rattle.phases.specs.Phases.{rest}
use Rattle.rkc.specs.State.{in_phase}
use Rattle.rkc.specs.Outcome.{Outcome, silent, received}
use Rattle.crc.specs.Crc.{is_right}
use Rattle.modbus.specs.Outcome as modbus
use Rattle.rtu.specs.Frame.{acted_on}
use Rattle.starred.specs.Ascii.{ascii}

-- ---- the shape of an example

-- what is done
pub data Deed : Type 0 where
  -- a block brings the item with this identifier this text
  block : String → String → Deed
  -- a value is written with so many decimals
  writing : ℕ → ℤ → Deed
  -- a character is sent in a line structure
  sending : ℕ → ℕ → Deed
  -- the CRC of a frame is looked at
  checking : List ℕ → Deed
  -- a device with this address is handed a frame
  answering : ℕ → List ℕ → Deed

-- what comes of it
pub data Result : Type 0 where
  -- the item has this value
  value : ℤ → Result
  -- these characters
  text : List ℕ → Result
  -- this byte on the line
  byte : ℕ → Result
  -- whether the CRC is right
  right : Bool → Result
  -- this frame comes back
  reply : List ℕ → Result
  -- this number is given back
  number : ℕ → Result

pub record Example : Type 0 where
  pub deed : Deed
  pub result : Result

infix 70 ◌gives◌
abbrev pub ◌gives◌ : Deed → Result → Example
d gives r = record { deed = d; result = r }

-- ---- the table

-- document 004's loopback test, with its CRC
abbrev pub loopback : List ℕ
loopback = 0x01 ∷ 0x08 ∷ 0x00 ∷ 0x00 ∷ 0x1F ∷ 0x34 ∷ 0xE9 ∷ 0xEC ∷ []

abbrev pub table : List Example
table =
    -- PB, two decimals, -10.00 to 10.00: the sign counts before a bare point too
    block "PB" "-.5" gives value (minus 50)
    -- minus five, and no lost point
    ∷ block "PB" "-5" gives value (minus 500)
    -- the fraction is cut off toward zero
    ∷ block "PB" "-.058" gives value (minus 5)
    -- minus zero is 0
    ∷ block "PB" "-0" gives value (pos 0)
    -- in range once it is cut off
    ∷ block "PB" "10.009" gives value (pos 1000)
    -- the first value below the range
    ∷ block "PB" "-10.01" gives number 18
    -- a plus is no part of a number
    ∷ block "PB" "+0" gives number 16
    -- a number has a digit
    ∷ block "PB" "-." gives number 16
    -- F1, no decimals, 0 to 100: cut off to minus zero
    ∷ block "F1" "-.9" gives value (pos 0)
    -- two decimals, zeros on the left
    ∷ writing 2 (minus 5) gives text (ascii "-00.05")
    -- the least that fits with one decimal, and one less
    ∷ writing 1 (minus 9999) gives text (ascii "-999.9")
    ∷ writing 1 (minus 10000) gives number 8
    -- 43H has three ones; structure 1 makes them even
    ∷ sending 1 0x43 gives byte 0xC3
    -- a frame of document 004, and its echo at address 1
    ∷ checking loopback gives right true
    ∷ answering 1 loopback gives reply loopback
    ∷ []

-- ---- what the definitions make of a deed

-- a link at rest, and the start table
unfoldable pub start : Outcome
start = record { step = silent (in_phase rest); table = start_values }

-- a reply buffer
unfoldable pub lent : List ℕ
lent = replicate least_buffer 0

-- bytes come one after another, at address 1, in structure 0, at time 0
unfoldable pub after : Outcome → List ℕ → Outcome
after o [] = o
after o (b ∷ bytes) = after (received (record { link = o.step.link; table = o.table; buffer = lent; address = 1; structure = 0; time = 0; byte = b })) bytes

-- the bytes of a block with this text: EOT, the address, STX, the text, ETX, the BCC
unfoldable pub block_bytes : List ℕ → List ℕ
block_bytes chars = EOT ∷ ascii "01" ++ STX ∷ chars ++ ETX ∷ bcc (chars ++ ETX ∷ []) ∷ []

-- the place of an item in the table
unfoldable pub place_of : List ℕ → ℕ
place_of identifier = place_found (found (get_or identifier 0 0) (get_or identifier 1 0))

-- the item has its value once the block is answered by ACK
unfoldable pub of_block : ℕ → Outcome → Result
of_block i o = cond (eqb (get_or o.step.reply 0 0) ACK) (value (entry o.table i)) (number o.step.number)

unfoldable pub of_written : Written → Result
of_written w = unless_met w.number number (text w.chars)

unfoldable pub of_frame : modbus.Outcome → Result
of_frame o = unless_met o.number number (reply o.reply)

unfoldable pub made : Deed → Result
made (block item chars) = of_block (place_of (ascii item)) (after start (block_bytes (ascii item ++ ascii chars)))
made (writing d v) = of_written (written width d v)
made (sending structure c) = byte (sent structure c)
made (checking frame) = right (is_right frame)
made (answering address frame) =
    of_frame (acted_on (record { table = start_values; buffer = replicate least_buffer 0; address = address }) frame)
