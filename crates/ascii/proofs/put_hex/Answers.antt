-- Two stores, one behind the other.
use Rattle.std.proofs.Common.{ℕ, ◌+◌, ◌/◌, ◌%◌, set, ap, ◌∙◌, ap₂, add-one}
use Rattle.ascii.specs.Hexadecimal.{digit_of, hex_of}
use Rattle.ascii.proofs.put_hex.Goals as goal

pub returns : goal.returns
unfolding hex_of
returns c =
    let a = c.args in
    ap₂ (λ (x y : ℕ). set (set a.buffer.now a.at x) (a.at + 1) y) c.digit_of.ensures c.digit_of-2.ensures
    ∙ ap (λ (k : ℕ). set (set a.buffer.now a.at (digit_of (a.byte / 16))) k (digit_of (a.byte % 16))) (add-one a.at)
