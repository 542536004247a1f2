-- The loop of `walk`: the records read so far were passed over. The measure is the place that the walk has come to.
use Rattle.last_write.proofs.Walked.{Come}
use Rattle.last_write.proofs.walk.Given as goal

abbrev pub invariant-loop-back : goal.invariant-loop-back
invariant-loop-back l = Come (record { address = l.address; item = l.item }) l.capture l.records l.back

abbrev pub decreases-loop-back : goal.decreases-loop-back
decreases-loop-back l = l.back.end
