-- The loop's invariant: the writes that were looked at give the item nothing.
use Rattle.std.proofs.Common.{◌≤◌, ◌/◌, length}
use Rattle.std.specs.Prelude.{None}
use Rattle.writes.proofs.Given.{GivenFrom}
use Rattle.writes.proofs.given_to.Given as goal

abbrev pub invariant-loop-i : goal.invariant-loop-i
invariant-loop-i l = record { within : l.i ≤ length l.bytes / 2; given : GivenFrom l.start l.bytes l.item l.i None }
