-- What a call gives that is handed a line.
-- Assumes nothing.
use Rattle.std.proofs.Common.{◌≡◌, ℕ, ◌-◌, ◌≤◌, List, length, take, ℤ, sym, refl, ap, ◌∙◌, ap₂, arith}
use mathlib.Core.Path.{subst⁻¹}
use Rattle.std.specs.Prelude.{Option, unwrap_or}
use Rattle.numbers.specs.Numbers.{none}
use Rattle.modbus.specs.declared.Answered.{Answered}
use Rattle.modbus.specs.Promise.{Gives}
use Rattle.modbus.proofs.Acting.{gives-by}
use Rattle.call.specs.Call.{Call, refusal, answered_as}
use Rattle.call.proofs.Faults.{not-refused}
use Rattle.call.proofs.Answered.{gives-refused}
use Rattle.ascii.specs.Line.{fewest, most, line_of, bytes_in, message_of, line_fault, acted_on}
use Rattle.ascii.specs.Promise.{bytes_taken, bytes_fault, Takes}
use Rattle.ascii.proofs.Faults.{taken-fault, form-right, right-number, all-taken, body-taken}

module _ (call : Call) (line : List ℕ) where
  -- the outcome of a line is that of a call
  pub as_call : acted_on call line ≡ answered_as line_of call (line_fault line) (message_of (bytes_in line))
  unfolding acted_on
  as_call = refl

  -- what was taken of the line, and the fault that it has
  pub record Looked (after : List ℕ) (n fault : ℕ) : Type 0 where
    pub taken : Takes (bytes_taken line) after n
    pub faulty : fault ≡ bytes_fault (take n after)

  pub looked : {after : List ℕ} {n fault : ℕ} (r : Option ℕ) → n ≡ unwrap_or r 0 → Takes (bytes_taken line) after (unwrap_or r 0)
      → fault ≡ bytes_fault (take n after) → Looked after n fault
  looked {after} r e t f = record { taken = subst⁻¹ (Takes (bytes_taken line) after) e t; faulty = f }

  module _ {after : List ℕ} {n fault : ℕ} (l : Looked after n fault) where
    line-fault : fault ≡ line_fault line
    line-fault = l.faulty ∙ ap bytes_fault l.taken.stand ∙ taken-fault line

    -- a line that is refused
    pub line_refused : {r : Answered} → (fault ≡ none → ⊥) → r ≡ record { number = refusal call fault; len = 0 }
        → Gives (acted_on call line) r call.buffer call.buffer call.table
    line_refused {r} h e =
        let number = refusal call fault in
        let met : number ≡ none → ⊥ = λ z. h (not-refused call fault z).1 in
        let refused = gives-refused line_of call (line_fault line) (message_of (bytes_in line)) (ap (refusal call) line-fault) met in
        subst⁻¹ (λ (a : Answered). Gives (acted_on call line) a call.buffer call.buffer call.table) e
        (gives-by (sym as_call) refused)

    -- one that is not has bytes
    module _ (z : fault ≡ none) where
      no-fault : line_fault line ≡ none
      no-fault = sym line-fault ∙ z

      pub has-bytes : (fewest ≤ n) × (n ≤ most)
      has-bytes =
          let long = l.taken.handed ∙ ap length (all-taken line no-fault) in
          let number = right-number line (form-right line no-fault) in
          let low = number.0 in
          let high = number.1 in
          (omega arith, omega arith)

      -- and is answered by its body
      pub line-answered : {r : Answered} {buffer : List ℕ} {left : List ℤ}
          → Gives (answered_as line_of call none (take (n - 1) after)) r call.buffer buffer left
          → Gives (acted_on call line) r call.buffer buffer left
      line-answered =
          gives-by (sym (as_call ∙ ap₂ (answered_as line_of call) no-fault (sym (body-taken line no-fault l.taken))))
