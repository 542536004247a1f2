-- `settle_each`: an item stays where it is known, and else becomes what it is given.
use Rattle.std.proofs.Common.{rules, arith}
use Rattle.playback.proofs.Walked.{settles_next}
use Rattle.playback.proofs.settle_each.Goals as goal

pub loop-item-preserved : goal.loop-item-preserved
loop-item-preserved c =
    settles_next c.loop-item.invariant (omega arith) (λ v e. rw e at c.or_else.ensures) (λ e. let h = rw e at c.or_else.ensures in search rules)
