-- The message rules are handed the frame's body, and what they reply is sealed.
use Rattle.std.proofs.Common.{◌∙◌, ◌≡◌, ◌≤◌, List, ℕ, length, arith, le-leb}
use Rattle.numbers.specs.Numbers.{none}
use Rattle.crc.specs.Crc.{framed, body_of}
use Rattle.modbus.proofs.Acting.{gives-by, within-room}
use Rattle.modbus.proofs.Laws.{reply-short}
use Rattle.call.specs.Call.{Call, refusal}
use Rattle.call.proofs.Faults.{not-refused, is-fine}
use Rattle.call.proofs.Answered.{gives-silent}
use Rattle.rtu.specs.Frame.{frame_fault}
use Rattle.rtu.proofs.Refusals.{frame-has-body}
use Rattle.rtu.proofs.Replies.{same-length, sealed_to, gives-sealed}
use Rattle.rtu.proofs.answer.Goals as goal

-- the frame has a body, and the buffer has room
has_body : (call : Call) (frame : List ℕ) → refusal call (frame_fault frame) ≡ none → 4 ≤ length frame
has_body call frame e = frame-has-body _ (not-refused _ _ e).1

has_room : (call : Call) (frame : List ℕ) → refusal call (frame_fault frame) ≡ none → 256 ≤ length call.buffer
has_room call frame e = (is-fine _ (not-refused _ _ e).0).room

pub overflow_sub-n : goal.overflow_sub-n
overflow_sub-n c = let long = has_body _ _ c.requires in omega arith

pub returns-then-answered-eq0 : goal.returns-then-answered-eq0
returns-then-answered-eq0 c =
    gives-silent framed (gives-by (within-room _ _ _ _ (has_room _ _ c.requires)) c.respond-answered.ensures) c.if-answered-eq0.true

pub unwrap-len-requires : goal.unwrap-len-requires
unwrap-len-requires c =
    let wide = has_room _ _ c.requires in
    let short = reply-short c.args.table.now c.args.address (body_of c.args.frame.now) in
    let g = gives-by (within-room _ _ _ _ wide) c.respond-answered.ensures in
    c.seal.ensures.room ∙ le-leb _ _ (omega (arith, same-length g, g.sends.len))

pub returns : goal.returns
returns c =
    let wide = has_room _ _ c.requires in
    let short = reply-short c.args.table.now c.args.address (body_of c.args.frame.now) in
    gives-sealed (gives-by (within-room _ _ _ _ wide) c.respond-answered.ensures) (omega arith) c.if-answered-eq0.false
    (sealed_to c.unwrap-len.ensures c.seal.ensures.frame)
