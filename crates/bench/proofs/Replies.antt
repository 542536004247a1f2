-- No reply of the link has over 11 bytes, so it lies within the buffer that it was lent.
-- Assumes nothing.
use mathlib.Core.Path.{◌≡◌, ap, ◌∙◌}
use mathlib.Core.List.{List}
use Prim.Native.Nat.{ℕ, ◌≤◌}
use native.Mathlib.Omega.{arith}
use lib.IntN.{ℤ}
use lib.ListN.{length}
use lib.Seq.{length-sets}
use Rattle.rkc.specs.declared.Stepped.{Stepped}
use Rattle.rkc.specs.Outcome.{ByteCall, received}
use Rattle.rkc.specs.Promise.{Leads}
use Rattle.demands.proofs.EachReply.{received-short}

-- what was lent at least 11 bytes still holds the whole reply
pub within-buffer : (call : ByteCall) {r : Stepped} {after : List ℕ} {table : List ℤ} → Leads call r after table → 11 ≤ length call.buffer
    → r.len ≤ length after
within-buffer call {r} {after} h room =
    let short = received-short call in
    let len : r.len ≡ length (received call).step.reply = ap (λ (s : Stepped). s.len) h.steps.back in
    let same : length after ≡ length call.buffer = ap length h.steps.sent ∙ length-sets call.buffer 0 (received call).step.reply in
    omega arith
