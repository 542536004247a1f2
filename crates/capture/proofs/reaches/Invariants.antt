-- The loop of `reaches`: the records that are left reach place 0 from here exactly when all of them do from the start. The measure is how
-- many are left.
use Rattle.std.proofs.Common.{◌-◌}
use Rattle.capture.proofs.Walk.{Leads}
use Rattle.capture.proofs.reaches.Given as goal

abbrev pub invariant-loop : goal.invariant-loop
invariant-loop l = Leads l.capture l.records l.place (l.records - l.counter) l.back

abbrev pub decreases-loop : goal.decreases-loop
decreases-loop l = l.records - l.counter
