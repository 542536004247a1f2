-- What is claimed of lines of Modbus ASCII. Demand 1 is claimed of both Modbus lines in `call`.
use Rattle.std.specs.Prelude.{◌≡◌, ℕ, ◌-◌, ◌≤◌, List, ◌++◌, length, drop}
use Rattle.numbers.specs.Numbers.{none, least_buffer}
use Rattle.crc.specs.Crc.{Bytes, framed}
use Rattle.modbus.specs.Outcome.{Outcome}
use Rattle.call.specs.Call.{Call, sent_as}
use Rattle.rtu.specs.Frame as rtu
use Rattle.ascii.specs.Line.{line_of, dropped, bytes_in, message_of, line_fault, acted_on}

-- the bodies that a line can have, which are those that a frame can have: 2 to 254 bytes
pub record Body (body : List ℕ) : Type 0 where
  pub bytes : Bytes body
  pub least : 2 ≤ length body
  pub not_more : length body ≤ 254

-- two outcomes, one of each mode, with the same number, the same table and the same reply body
pub record SameOutcome (of_frame of_line : Outcome) : Type 0 where
  pub number : of_line.number ≡ of_frame.number
  pub table : of_line.table ≡ of_frame.table
  pub reply : (body : List ℕ) × (of_frame.reply ≡ sent_as framed body) × (of_line.reply ≡ sent_as line_of body)

pub record OfLines : Type 0 where
  -- a line that is made of a body has no fault, and is taken apart into that body
  pub taken_apart : (body : List ℕ) → Body body → (line_fault (line_of body) ≡ none) × (message_of (bytes_in (line_of body)) ≡ body)
  -- a line without a fault is, from its last colon on, the line of the body that it is taken apart into
  pub made_again : (line : List ℕ) → line_fault line ≡ none → drop (dropped line - 1) line ≡ line_of (message_of (bytes_in line))
  -- a colon starts afresh: what stands in front of a line that has one changes nothing
  pub afresh : (call : Call) (before line : List ℕ) → 1 ≤ dropped line → acted_on call (before ++ line) ≡ acted_on call line
  -- for the same body both modes give the same number, table and reply body
  pub both_modes : (call : Call) (body : List ℕ) → Body body
      → SameOutcome (rtu.acted_on call (framed body)) (acted_on call (line_of body))
  -- every reply has room in every buffer that is accepted
  pub reply_fits : (call : Call) (line : List ℕ) → length (acted_on call line).reply ≤ least_buffer
