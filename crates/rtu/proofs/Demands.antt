-- Document 01's demands on the RTU line. Demand 1, claimed in `call`: what a call leaves alone. Demand 3, claimed in
-- specs/Demands.antt: line damage of the kinds named is never acted on.
-- Assumes nothing.
use mathlib.Core.Path.{◌≡◌, sym, ap, ◌∙◌}
use mathlib.Core.Bool.{true, false}
use mathlib.Core.List.{List}
use Prim.Native.Nat.{ℕ}
use native.Mathlib.Omega.{arith}
use lib.IntN.{ℤ}
use Rattle.numbers.specs.Numbers.{none}
use Rattle.items.specs.ItemList.{item_at}
use Rattle.table.specs.Table.{entry, is_alarm_state, good_table}
use Rattle.crc.specs.Crc.{framed, body_of}
use Rattle.crc.specs.Damage.{flip}
use Rattle.crc.proofs.Flip.{flip-length}
use Rattle.crc.proofs.Detects.{damaged-not-right}
use Rattle.modbus.specs.declared.Answered.{Answered}
use Rattle.modbus.specs.Outcome.{silent}
use Rattle.modbus.specs.Promise.{Gives}
use Rattle.modbus.proofs.Acting.{gives-by}
use Rattle.call.specs.Call.{Call, refusal, answered_as}
use Rattle.call.specs.Demands.{OfCall}
use Rattle.call.proofs.Answered.{ruled, gives-refused, gives-ruled}
use Rattle.call.proofs.Demands.{untouched, call-read-only, call-good, demand-1-call}
use Rattle.rtu.specs.Frame.{wrong_crc, frame_fault, acted_on}
use Rattle.rtu.specs.Promise.{Acts}
use Rattle.rtu.specs.Demands.{OfDamage}
use Rattle.rtu.proofs.Refusals.{frame-crc}
use Rattle.rtu.proofs.Replies.{as_call, acted-refused}

-- ---- demand 1

module _ (call : Call) (frame : List ℕ) where
  pub frame-read-only : (j : ℕ) → (item_at j).writable ≡ false → is_alarm_state j ≡ false → entry (acted_on call frame).table j ≡ entry call.table j
  unfolding acted_on
  frame-read-only = call-read-only framed call (frame_fault frame) (body_of frame)

  pub frame-good : good_table call.table ≡ true → good_table (acted_on call frame).table ≡ true
  unfolding acted_on
  frame-good = call-good framed call (frame_fault frame) (body_of frame)

-- every call that keeps its promise meets demand 1
pub demand-1-frame : (call : Call) (frame : List ℕ) {r : Answered} {after : List ℕ} {left : List ℤ} → Acts call frame r after left
    → OfCall call r after left
demand-1-frame call frame a =
    demand-1-call framed call (frame_fault frame) (body_of frame) (gives-by (as_call call frame) a.outcome)

-- ---- demand 3

pub demand-3 : OfDamage
demand-3 =
    record {
      refused = λ call f m e s.
          let long = flip-length f m in
          let least = s.sent.least in
          let most = s.sent.most in
          let wrong : frame_fault (flip f m) ≡ wrong_crc =
          frame-crc (flip f m) (omega arith) (omega arith) (sym (damaged-not-right f m s)) in
          acted-refused call (flip f m) e (λ z. omega arith) ∙ ap (silent call.table) wrong;
    }

-- so the promise of a call follows from its outcome alone
module _ (call : Call) (frame : List ℕ) where
  acts : {r : Answered} {after : List ℕ} {left : List ℤ}
      → Gives (answered_as framed call (frame_fault frame) (body_of frame)) r call.buffer after left → Acts call frame r after left
  acts g =
      let o = gives-by (sym (as_call call frame)) g in
      record {
        outcome = o;
        damage = λ f m e s arrived. untouched o wrong_crc (ap (acted_on call) arrived ∙ demand-3.refused call f m e s);
      }

  -- that of a frame which is refused, and of one which is answered
  pub acts-refused : {number : ℕ} → number ≡ refusal call (frame_fault frame) → (number ≡ none → ⊥)
      → Acts call frame (record { number = number; len = 0 }) call.buffer call.table
  acts-refused e h = acts (gives-refused framed call (frame_fault frame) (body_of frame) e h)

  pub acts-answered : {number : ℕ} {r : Answered} {after : List ℕ} {left : List ℤ} → number ≡ refusal call (frame_fault frame)
      → number ≡ none → Gives (ruled framed call (frame_fault frame) (body_of frame)) r call.buffer after left
      → Acts call frame r after left
  acts-answered e z g = acts (gives-ruled framed call (frame_fault frame) (body_of frame) e z g)
