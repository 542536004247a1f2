-- Each function has its top bit set, or it is added.
use Rattle.std.proofs.Common.{refl, ℕ, eqb-true, bit_or, arith}
use lib.Dec.{eqb}
use Rattle.items.proofs.Lists.{passes_at}
use Rattle.modbus.specs.Outcome.{top_bit_set}
use Rattle.modbus.proofs.top_bit_set.Goals as goal

pub returns : goal.returns
returns c = eqb-true _ _ (passes_at (λ (f : ℕ). eqb (bit_or f 128) (top_bit_set f)) 256 c.args.function refl (omega arith))
