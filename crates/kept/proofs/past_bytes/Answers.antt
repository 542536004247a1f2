-- A shift by eight places is a factor 256.
use Rattle.std.proofs.Common.{◌*◌, ◌∙◌, arith}
use native.Mathlib.Nat.{one-mul}
use lib.Pow.{shl_exact}
use Rattle.kept.proofs.Cut.{bits-bytes}
use Rattle.kept.proofs.past_bytes.Goals as goal

pub returns : goal.returns
returns c =
    let n = c.args.count in
    shl_exact {a = 1} 1 (8 * n) 64 (omega arith) (omega arith) ∙ one-mul _ ∙ bits-bytes n
