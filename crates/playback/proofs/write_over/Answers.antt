-- `write_over`: an entry becomes what is known of its item, and stays where nothing is.
use Rattle.std.proofs.Common.{rules, arith, sym, ap, ◌∙◌}
use Rattle.sign.proofs.Laws.{same}
use Rattle.writes.specs.Writes.{over}
use Rattle.playback.proofs.Walked.{come_starts, come-on}
use Rattle.playback.proofs.write_over.Goals as goal
use Rattle.playback.proofs.write_over.Goals.{in-Some, in_default}

pub loop-item-init : goal.loop-item-init
loop-item-init c = come_starts

pub loop-item-preserved : goal.loop-item-preserved
loop-item-preserved c =
    elim c.match-known-item.branch [
      | in-Some w ↦
          rw (w.table-is, same w.in-Some.value (search rules))
          (come-on c.loop-item.invariant (omega arith) (sym (ap (over _) w.in-Some.is)))
      | in_default w ↦ rw w.table-is (come-on c.loop-item.invariant (omega arith) (sym (ap (over _) w.in_default.is)))
    ]

pub returns : goal.returns
returns c = record { entries = c.loop-item.invariant.long ∙ c.requires; each = λ i h. c.loop-item.invariant.before i (omega arith) }
