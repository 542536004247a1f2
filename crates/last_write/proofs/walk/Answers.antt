-- `walk`: past a record that does not write the item it goes on, one that does answers, where none ends it has met damage, and at place 0
-- it has read all or miscounts.
use Rattle.std.proofs.Common.{arith, rules, refl, sym, ◌∙◌}
use Rattle.capture.specs.Format.{trailer_begins}
use Rattle.capture.proofs.Walk.{begun}
use Rattle.last_write.proofs.Walked.{walk-starts, comes-nearer, comes-on, comes-to-write, comes-to-damage, comes-to-all, comes-to-others}
use Rattle.last_write.proofs.walk.Goals as goal

pub loop-back-init : goal.loop-back-init
loop-back-init c = record { same = refl; walked = walk-starts _ _ c.trailer_begins.ensures }

pub overflow_add-records : goal.overflow_add-records
unfolding trailer_begins
overflow_add-records c =
    omega (arith, c.loop-back.invariant.walked.few, (begun c.args.capture.now c.requires.trailer).short)

pub loop-back-smaller : goal.loop-back-smaller
loop-back-smaller c = comes-nearer _ _ c.loop-back.invariant c.next.ensures.steps c.in-Some.is

pub loop-back-preserved : goal.loop-back-preserved
loop-back-preserved c =
    comes-on _ _ c.loop-back.invariant c.next.ensures.steps c.in-Some.is c.frame_before.ensures.bytes c.wrote-written.ensures
    (search rules)

pub returns-in_default : goal.returns-in_default
returns-in_default c =
    comes-to-damage _ _ c.loop-back.invariant c.next.ensures.steps c.requires c.in_default.is (omega arith)

pub returns-then-is_some : goal.returns-then-is_some
returns-then-is_some c =
    comes-to-write _ _ c.loop-back.invariant c.next.ensures.steps c.requires c.in-Some.is c.frame_before.ensures.bytes
    c.wrote-written.ensures (search rules)

pub returns-then-records-count : goal.returns-then-records-count
returns-then-records-count c =
    comes-to-all _ _ c.loop-back.invariant c.requires (omega arith) (c.if-records-count.true ∙ c.count.ensures)

pub returns-else-records-count : goal.returns-else-records-count
returns-else-records-count c =
    comes-to-others _ _ c.loop-back.invariant c.requires (omega arith) (λ e. c.if-records-count.false (e ∙ sym c.count.ensures))
