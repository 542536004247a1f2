-- The loop of `settle_all`: what is known, over what the frames that are left write, is what all frames write.
use Rattle.playback.proofs.Walked.{Walked}
use Rattle.playback.proofs.settle_all.Given as goal

abbrev pub invariant-loop-end : goal.invariant-loop-end
invariant-loop-end l = Walked l.address l.capture l.known l.end-iterator
