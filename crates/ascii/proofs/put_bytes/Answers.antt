-- What a character stands for is half a byte, and a turn stores the next byte.
use Rattle.std.proofs.Common.{ℕ, ◌+◌, ◌*◌, sym, ◌∙◌, ap₂, arith}
use Rattle.ascii.proofs.Hexadecimal.{stands}
use Rattle.ascii.proofs.Taken.{hex-turn, bytes-turn, bytes-end}
use Rattle.ascii.proofs.put_bytes.Goals as goal

pub overflow_mul-bytes : goal.overflow_mul-bytes
overflow_mul-bytes c = let high = (stands _ c.in_ok-half_of.ensures).small in omega arith

pub overflow_add-bytes : goal.overflow_add-bytes
overflow_add-bytes c =
    let high = (stands _ c.in_ok-half_of.ensures).small in
    let low = (stands _ c.in_ok-bytes.ensures).small in
    omega arith

pub loop-i-preserved : goal.loop-i-preserved
loop-i-preserved c =
    let high = stands _ c.in_ok-half_of.ensures in
    let low = stands _ c.in_ok-bytes.ensures in
    let v = ap₂ (λ (h k : ℕ). 16 * h + k) high.meant low.meant in
    record {
      hex = sym (hex-turn _ c.loop-i.i (omega arith) high.hex low.hex) ∙ c.loop-i.invariant.hex;
      left = sym (bytes-turn _ _ c.loop-i.i _ (omega arith) v) ∙ c.loop-i.invariant.left;
    }

pub returns-clause-stored : goal.returns-clause-stored
returns-clause-stored c = λ hex. sym (bytes-end _ _ c.loop-i.i (omega arith)) ∙ c.loop-i.invariant.left
