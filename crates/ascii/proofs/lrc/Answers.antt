-- Where no byte is left, the complement of the sum is the LRC.
use Rattle.std.proofs.Common.{◌≡◌, ℕ, ◌+◌, ◌%◌, ◌<◌, ◌≤◌, List, length, drop, ap, arith, drop_of_length-le}
use Rattle.ascii.specs.Line.{sum_of, lrc_of}
use Rattle.ascii.proofs.lrc.Goals as goal

complement : (bytes : List ℕ) (i sum r : ℕ) → length bytes ≤ i → sum < 256 → (sum + sum_of (drop i bytes)) % 256 ≡ sum_of bytes % 256
    → r < 256 → (r + sum) % 256 ≡ 0 → r ≡ lrc_of bytes
unfolding lrc_of
complement bytes i sum r h small inv byte e =
    let none : sum_of (drop i bytes) ≡ 0 = ap sum_of (drop_of_length-le bytes h) in
    omega arith

pub returns : goal.returns
returns c =
    complement _ _ _ _ c.loop-byte-test.false c.loop-byte.invariant.small c.loop-byte.invariant.left c.wrapping_neg.type_inv
    c.wrapping_neg.ensures
