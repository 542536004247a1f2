-- `modbus_rtu::exchange` is safe: a sealed frame lies within its buffer.
use Rattle.std.proofs.Common.{◌≡◌, ℕ, ◌+◌, ◌≤◌, Bool, true, false, cond, List, length, refl, sym, ap, arith, leb, ◌∙◌}
use borrow.Author.Tests.{leb-true}
use lib.Seq.{length-take-le}
use Rattle.crc.specs.Crc.{sealed_length, Seals}
use Rattle.crc.proofs.Sealed.{sealed-same-length}
use Rattle.vectors.proofs.modbus_rtu.exchange.Goals as goal

-- with room for the CRC the frame ends at n + 2, without it at 0
frame-end : (buffer : List ℕ) (n : ℕ) → sealed_length buffer n ≤ length buffer
unfolding sealed_length
frame-end buffer n = go (leb (n + 2) (length buffer)) refl
  where
    go : (b : Bool) → leb (n + 2) (length buffer) ≡ b → cond b (n + 2) 0 ≤ length buffer
    go true e = leb-true _ _ e
    go false e = omega arith

within : {before after : List ℕ} {n len : ℕ} → Seals before n after len → len ≤ length after
within {before} {after} {n} {len} h =
    let same : length after ≡ length before = ap length h.buffer ∙ sealed-same-length before n in
    let most = frame-end before n in
    let end : len ≡ sealed_length before n = h.handed in
    omega arith

pub slice_bounds-frame-end-2 : goal.slice_bounds-frame-end-2
slice_bounds-frame-end-2 c = rw c.unwrap_or-end.ensures (within c.seal.ensures.frame)

pub slice_bounds-frame-end-3 : goal.slice_bounds-frame-end-3
slice_bounds-frame-end-3 c = sym (length-take-le _ _ (rw c.unwrap_or-end.ensures (within c.seal.ensures.frame)))
