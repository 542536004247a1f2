-- `vb_rtu` keeps the promise of `rtu::frame`, and `vb_ascii` that of `ascii::line`, of the answer that its result holds. So the
-- demands that the library meets hold of both as they stand.
-- Assumes nothing.
use mathlib.Core.Path.{◌≡◌, ap₂}
use mathlib.Core.List.{List}
use Prim.Native.Nat.{ℕ, ◌/◌, ◌%◌, ◌≤◌, ◌<◌}
use native.Mathlib.Omega.{arith}
use lib.IntN.{ℤ}
use lib.ListN.{length}
use Rattle.modbus.specs.declared.Answered.{Answered}
use Rattle.modbus.specs.Outcome.{Outcome}
use Rattle.modbus.specs.Promise.{Gives}
use Rattle.call.specs.Call.{Call}
use Rattle.call.specs.Promise.{Untouched}
use Rattle.call.specs.Demands.{OfCall}
use Rattle.rtu.specs.Promise.{Acts}
use Rattle.rtu.proofs.Replies.{frame-reply-short}
use Rattle.rtu.proofs.Demands.{demand-1-frame}
use Rattle.ascii.specs.Line.{acted_on}
use Rattle.ascii.proofs.Claims.{demand-1-line, line-reply-short}
use Rattle.panel.specs.Calls.{result_of, answer_in}
use Rattle.panel.specs.Promise.{longest_reply}

-- ---- a result and the answer in it

-- a result holds the answer that it was made of
answer-held : {number len r : ℕ} → number < 256 → r ≡ result_of number len → record { number = number; len = len } ≡ answer_in r
answer-held n e = ap₂ (λ (a b : ℕ). record { number = a; len = b }) (omega arith) (omega arith)

-- and is the only one that holds it
pub result-single : {r q : ℕ} → r % 256 ≡ q % 256 → r / 256 ≡ q / 256 → r ≡ q
result-single n l = omega arith

-- ---- a frame, and a line

-- an answer's length has room in a result
gives-short : {o : Outcome} {a : Answered} {before after : List ℕ} {left : List ℤ} → length o.reply ≤ 255
    → Gives o a before after left → a.len ≤ longest_reply
gives-short short g =
    let len = g.sends.len in
    omega arith

pub acts-short : {call : Call} {frame : List ℕ} {a : Answered} {after : List ℕ} {left : List ℤ} → Acts call frame a after left
    → a.len ≤ longest_reply
acts-short {call} {frame} x = gives-short (frame-reply-short call frame) x.outcome

pub line-short : (call : Call) (line : List ℕ) {a : Answered} {before after : List ℕ} {left : List ℤ}
    → Gives (acted_on call line) a before after left → a.len ≤ longest_reply
line-short call line = gives-short (line-reply-short call line)

module _ {call : Call} {after : List ℕ} {left : List ℤ} (r : ℕ) where
  -- every call that keeps its promise meets demand 1
  pub demand-1-rtu : (frame : List ℕ) → Acts call frame (answer_in r) after left → OfCall call (answer_in r) after left
  demand-1-rtu frame = demand-1-frame call frame

  pub demand-1-ascii : (line : List ℕ) → Gives (acted_on call line) (answer_in r) call.buffer after left
      → OfCall call (answer_in r) after left
  demand-1-ascii line = demand-1-line call line

  -- where nothing is replied, as after the caller's fault, the result is the number itself
  pub silent-result : {number : ℕ} → Untouched number call (answer_in r) after left → r ≡ number
  silent-result u =
      let given = u.given in
      let silent = u.silent in
      omega arith
