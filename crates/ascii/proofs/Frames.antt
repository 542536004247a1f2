-- The frame of a body in RTU: what comes of it, as what comes of the message.
-- Assumes nothing.
use Rattle.std.proofs.Common.{◌≡◌, ℕ, ◌+◌, ◌-◌, ◌*◌, ◌≤◌, List, length, take, sym, refl, ap, ◌∙◌, ap₂, arith}
use Rattle.numbers.specs.Numbers.{none, unless_met}
use Rattle.numbers.proofs.Order.{either_way}
use Rattle.crc.specs.Crc.{framed, body_of}
use Rattle.crc.proofs.Framed.{length-framed, take-framed, framed-right}
use Rattle.modbus.specs.Outcome.{Outcome, silent}
use Rattle.modbus.specs.Rules.{acted}
use Rattle.modbus.proofs.Laws.{reply-short}
use Rattle.call.specs.Call.{Call, refusal, sending, answered_as}
use Rattle.call.proofs.Faults.{not-refused, is-fine}
use Rattle.call.proofs.Answered.{as-sent}
use Rattle.rtu.specs.Frame.{acted_on}
use Rattle.rtu.proofs.Refusals.{frame-crc}
use Rattle.rtu.proofs.Replies.{as_call}

module _ (call : Call) (body : List ℕ) where
  -- what comes of the message, whatever carries it
  abbrev pub message : Outcome
  message = unless_met (refusal call none) (silent call.table) (acted call.table call.address body)

  -- of a frame it is that, with the CRC behind the reply
  module _ (least : 2 ≤ length body) (most : length body ≤ 254) where
    pub by-frame : acted_on call (framed body) ≡ sending framed message
    by-frame =
        let long = length-framed body in
        let less : length (framed body) - 2 ≡ length body = omega arith in
        let same : body_of (framed body) ≡ body = ap (λ (k : ℕ). take k (framed body)) less ∙ take-framed body in
        as_call call (framed body)
        ∙ ap₂ (answered_as framed call) (frame-crc (framed body) (omega arith) (omega arith) (sym (framed-right body))) same
        ∙ as-sent framed call none body

  -- where something is replied, it has room as a line
  pub line-fits : (length message.reply ≡ 0 → ⊥) → (2 * length message.reply + 5 ≤ length call.buffer)
  line-fits =
      either_way (refusal call none) (silent call.table) (acted call.table call.address body)
      (λ (o : Outcome). (length o.reply ≡ 0 → ⊥) → 2 * length o.reply + 5 ≤ length call.buffer)
      (λ met some. absurd (some refl))
      (λ e some.
      let room = (is-fine call (not-refused call none e).0).room in
      let short = reply-short call.table call.address body in
      omega arith)
