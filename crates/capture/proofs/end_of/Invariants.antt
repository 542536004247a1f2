-- The loop of `end_of`: the records that are left have the frames at the front. The measure is how many are still to be passed over.
use Rattle.std.proofs.Common.{◌-◌, ◌+◌}
use Rattle.capture.proofs.ByNumber.{Fronted}
use Rattle.capture.proofs.end_of.Given as goal

abbrev pub invariant-loop : goal.invariant-loop
invariant-loop l = Fronted l.capture (l.end + l.frame - l.counter) l.back

abbrev pub decreases-loop : goal.decreases-loop
decreases-loop l = l.end - l.counter
