-- What comes of a frame, as a call, and a reply that is sealed.
-- Assumes nothing.
use mathlib.Core.Path.{◌≡◌, refl, sym, ap, ap₂, subst, ◌∙◌}
use mathlib.Core.List.{List}
use Prim.Native.Nat.{ℕ, ◌+◌, ◌≤◌}
use native.Mathlib.Omega.{arith}
use lib.IntN.{ℤ}
use lib.ListN.{length}
use lib.Seq.{sets, length-sets}
use Rattle.std.specs.Prelude.{Option, Some, unwrap_or}
use Rattle.numbers.specs.Numbers.{none}
use Rattle.crc.specs.Crc.{framed, body_of, sealed, sealed_length, Seals}
use Rattle.crc.proofs.Framed.{length-framed}
use Rattle.crc.proofs.Sealed.{with-room, sealed-body}
use Rattle.modbus.specs.declared.Answered.{Answered}
use Rattle.modbus.specs.Outcome.{Outcome, silent}
use Rattle.modbus.specs.Rules.{acted}
use Rattle.modbus.specs.Promise.{Gives}
use Rattle.call.specs.Call.{Call, call_fault, sending, answered_as}
use Rattle.call.proofs.Faults.{refused-fault}
use Rattle.call.proofs.Answered.{is-ruled, brought-silent, reply-bound, gives-formed}
use Rattle.rtu.specs.Frame.{frame_fault, acted_on}

module _ (call : Call) (frame : List ℕ) where
  -- the outcome of a frame is that of a call
  pub as_call : acted_on call frame ≡ answered_as framed call (frame_fault frame) (body_of frame)
  unfolding acted_on
  as_call = refl

  -- so where the caller made no fault, a frame with a fault is refused, and any other is acted on as its message says
  pub acted-refused : call_fault call ≡ none → (frame_fault frame ≡ none → ⊥)
      → acted_on call frame ≡ silent call.table (frame_fault frame)
  acted-refused e h = as_call ∙ brought-silent framed call (frame_fault frame) (body_of frame) e h

  pub acted-answered : call_fault call ≡ none → frame_fault frame ≡ none
      → acted_on call frame ≡ sending framed (acted call.table call.address (body_of frame))
  acted-answered e right =
      as_call ∙ is-ruled framed call (frame_fault frame) (body_of frame) (refused-fault call (frame_fault frame) e ∙ right)

  -- and a reply with its CRC has at most 255 bytes
  pub frame-reply-short : length (acted_on call frame).reply ≤ 255
  unfolding acted_on
  frame-reply-short =
      reply-bound framed 255 (λ body h. omega (arith, length-framed body)) call (frame_fault frame) (body_of frame)

-- ---- a reply that is sealed

-- the buffer is as long as it was
pub same-length : {o : Outcome} {a : Answered} {before mid : List ℕ} {left : List ℤ} → Gives o a before mid left
    → length mid ≡ length before
same-length {o} {before = before} g = ap length g.sends.sent ∙ length-sets before 0 o.reply

-- the length that sealing hands back
pub sealed_to : {before after : List ℕ} {n len : ℕ} {r : Option ℕ} → r ≡ Some len → Seals before n after (unwrap_or r 0)
    → Seals before n after len
sealed_to {before} {after} {n} e = subst (λ (r : Option ℕ). Seals before n after (unwrap_or r 0)) e

-- a message whose reply was sealed
pub gives-sealed : {o : Outcome} {a : Answered} {before mid after : List ℕ} {left : List ℤ} {len : ℕ} → Gives o a before mid left
    → length o.reply + 2 ≤ length before → (a.len ≡ 0 → ⊥) → Seals mid a.len after len
    → Gives (sending framed o) (record { number = a.number; len = len }) before after left
gives-sealed {o} {before = before} g room some s =
    let long = g.sends.len in
    let stored = g.sends.sent in
    gives-formed framed o g.sends.given g.table (λ z. some (long ∙ z))
    (s.handed ∙ ap₂ sealed_length stored long
    ∙ sym (with-room (sets before 0 o.reply) (length o.reply) (omega (arith, length-sets before 0 o.reply))).handed
    ∙ sym (length-framed o.reply))
    (s.buffer ∙ ap₂ sealed stored long ∙ sealed-body before o.reply room)
