-- `end_of`: all records are left at the trailer, and one less from each step.
use Rattle.std.proofs.Common.{arith, refl}
use Rattle.capture.proofs.ByNumber.{fronted_all, fronted_on}
use Rattle.capture.proofs.end_of.Goals as goal

pub loop-init : goal.loop-init
loop-init c = fronted_all _ _ _ c.requires.0 refl c.trailer_begins.ensures (omega (arith, c.count-end.ensures))

pub loop-preserved : goal.loop-preserved
loop-preserved c = fronted_on _ _ _ c.loop.invariant _ _ c.next.ensures.steps (omega arith)
