-- The loop of `settle_each`: the items in front of this one were settled by the message.
use Rattle.std.specs.Prelude.{None}
use Rattle.writes.specs.Writes.{given}
use Rattle.settings.specs.Settings.{writes_of}
use Rattle.playback.proofs.Walked.{Come, settled_by}
use Rattle.playback.proofs.settle_each.Given as goal

abbrev pub invariant-loop-item : goal.invariant-loop-item
invariant-loop-item l = Come None (settled_by (given (writes_of l.body))) l.initial.known l.item-counter l.known
