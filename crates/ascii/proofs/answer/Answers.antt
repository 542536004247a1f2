-- The frame of the body is answered as the body is, and what it is answered by becomes a line.
use Rattle.std.proofs.Common.{◌≡◌, ℕ, ◌+◌, ◌*◌, ◌-◌, ◌≤◌, List, length, take, ℤ, sym, ap, ◌∙◌, ap₂, arith, length-take-le, le-leb}
use lib.Seq.{length-sets}
use Rattle.numbers.specs.Numbers.{none}
use Rattle.crc.specs.Crc.{framed, Seals}
use Rattle.crc.proofs.Sealed.{with-room, sealed-frame, sealed-same-length}
use Rattle.modbus.specs.declared.Answered.{Answered}
use Rattle.modbus.specs.Promise.{Gives}
use Rattle.modbus.proofs.Acting.{gives-by}
use Rattle.call.specs.Call.{Call, sending}
use Rattle.call.proofs.Answered.{as-sent}
use Rattle.rtu.specs.Frame.{acted_on}
use Rattle.rtu.proofs.Replies.{sealed_to}
use Rattle.ascii.specs.Line.{line_of}
use Rattle.ascii.proofs.Written.{gives_none, replied, body-long, gives-written}
use Rattle.ascii.proofs.Frames.{message, by-frame, line-fits}
use Rattle.ascii.proofs.answer.Goals as goal

-- the bytes were sealed: the frame of the message at their front stands there
module _ (bytes : List ℕ) (n : ℕ) (room : n + 2 ≤ length bytes) {after : List ℕ} {end : ℕ} (s : Seals bytes n after end) where
  two_more : end ≡ n + 2
  two_more = s.handed ∙ sym (with-room bytes n room).handed

  inside : end ≤ length after
  inside = let same = ap length s.buffer ∙ sealed-same-length bytes n in omega (arith, two_more)

  -- what the frame is answered by is what comes of the message, with its reply sealed
  ruled : (call : Call) → 2 ≤ n → n ≤ 254 → {r : Answered} {buffer : List ℕ} {left : List ℤ}
      → Gives (acted_on call (take end after)) r call.buffer buffer left
      → Gives (sending framed (message call (take n bytes))) r call.buffer buffer left
  ruled call least most =
      let long : length (take n bytes) ≡ n = length-take-le n bytes (omega arith) in
      gives-by
      (ap (acted_on call) (ap₂ take two_more s.buffer ∙ sealed-frame bytes n room)
      ∙ by-frame call (take n bytes) (omega arith) (omega arith))

-- the line of the reply has room
fits : (call : Call) (body : List ℕ) {a : Answered} {buffer : List ℕ} {left : List ℤ}
    → Gives (sending framed (message call body)) a call.buffer buffer left → (a.len ≡ 0 → ⊥)
    → 2 * length (message call body).reply + 5 ≤ length call.buffer
fits call body g some = line-fits call body (replied (message call body) g some)

-- and so it has where the frame's stands
written-fits : (call : Call) (body : List ℕ) {a : Answered} {buffer : List ℕ} {left : List ℤ}
    → Gives (sending framed (message call body)) a call.buffer buffer left → (a.len ≡ 0 → ⊥)
    → 2 * (a.len - 2) + 5 ≤ length buffer
written-fits call body {a} {buffer} g some =
    let same : length buffer ≡ length call.buffer =
    ap length g.sends.sent ∙ length-sets call.buffer 0 (sending framed (message call body)).reply in
    omega (arith, body-long (message call body) g some, fits call body g some)

-- the longest body leaves room for its CRC
room : (bytes : List ℕ) (n : ℕ) → length bytes ≡ 256 → n ≤ 254 → n + 2 ≤ length bytes
room bytes n long most = omega arith

pub unwrap-end-requires : goal.unwrap-end-requires
unwrap-end-requires c = c.seal.ensures.room ∙ le-leb _ _ (room _ _ c.told-bytes c.requires.1)

pub shared_ref_as_front-frame : goal.shared_ref_as_front-frame
shared_ref_as_front-frame c =
    let two = two_more c.args.bytes.now c.args.n (room _ _ c.told-bytes c.requires.1) (sealed_to c.unwrap-end.ensures c.seal.ensures.frame) in
    let most = c.requires.1 in
    omega arith

pub slice_bounds-frame-end : goal.slice_bounds-frame-end
slice_bounds-frame-end c =
    sym
    (length-take-le _ _
    (inside c.args.bytes.now c.args.n (room _ _ c.told-bytes c.requires.1) (sealed_to c.unwrap-end.ensures c.seal.ensures.frame)))

pub returns-then-answered-eq0 : goal.returns-then-answered-eq0
returns-then-answered-eq0 c =
    let call : Call = record { table = c.args.table.now; buffer = c.args.reply.now; address = c.args.address } in
    let body = take c.args.n c.args.bytes.now in
    let g = ruled c.args.bytes.now c.args.n (room _ _ c.told-bytes c.requires.1) (sealed_to c.unwrap-end.ensures c.seal.ensures.frame) call c.requires.0 c.requires.1 c.frame-answered.ensures.outcome in
    gives-by (sym (as-sent line_of call none body)) (gives_none (message call body) g c.if-answered-eq0.true)

pub overflow_sub-answered : goal.overflow_sub-answered
overflow_sub-answered c =
    let call : Call = record { table = c.args.table.now; buffer = c.args.reply.now; address = c.args.address } in
    let body = take c.args.n c.args.bytes.now in
    let g = ruled c.args.bytes.now c.args.n (room _ _ c.told-bytes c.requires.1) (sealed_to c.unwrap-end.ensures c.seal.ensures.frame) call c.requires.0 c.requires.1 c.frame-answered.ensures.outcome in
    omega (arith, body-long (message call body) g c.if-answered-eq0.false)

pub write_line-len-requires : goal.write_line-len-requires
write_line-len-requires c =
    let call : Call = record { table = c.args.table.now; buffer = c.args.reply.now; address = c.args.address } in
    let body = take c.args.n c.args.bytes.now in
    let g = ruled c.args.bytes.now c.args.n (room _ _ c.told-bytes c.requires.1) (sealed_to c.unwrap-end.ensures c.seal.ensures.frame) call c.requires.0 c.requires.1 c.frame-answered.ensures.outcome in
    written-fits call body g c.if-answered-eq0.false

pub returns : goal.returns
returns c =
    let call : Call = record { table = c.args.table.now; buffer = c.args.reply.now; address = c.args.address } in
    let body = take c.args.n c.args.bytes.now in
    let g = ruled c.args.bytes.now c.args.n (room _ _ c.told-bytes c.requires.1) (sealed_to c.unwrap-end.ensures c.seal.ensures.frame) call c.requires.0 c.requires.1 c.frame-answered.ensures.outcome in
    let some = c.if-answered-eq0.false in
    gives-by (sym (as-sent line_of call none body))
    (gives-written (message call body) g some (fits call body g some) c.write_line-len.ensures)
