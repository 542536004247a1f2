-- What a call that is refused leaves.
use Rattle.std.specs.Prelude.{ℕ, ◌≡◌, List, ℤ}
use Rattle.modbus.specs.declared.Answered.{Answered}
use Rattle.call.specs.Call.{Call}

-- this number and no reply is given back, and buffer and table are as they came
pub record Untouched (number : ℕ) (call : Call) (r : Answered) (after : List ℕ) (left : List ℤ) : Type 0 where
  pub given : r.number ≡ number
  pub silent : r.len ≡ 0
  pub buffer : after ≡ call.buffer
  pub table : left ≡ call.table
