-- A short buffer and another's message are passed over, ours is obeyed.
use Rattle.std.proofs.Common.{sym, ◌∙◌, arith, rules}
use Rattle.std.proofs.lemmas.Grind.{common_steps}
use Rattle.modbus.proofs.Acting.{gives-by, gives-front, acted-ours, acted-other, within-room, without-room, gives-silence}
use Rattle.modbus.proofs.Laws.{reply-short}
use Rattle.modbus.proofs.respond.Goals as goal

pub returns-in_default : goal.returns-in_default
returns-in_default c = gives-by (sym (without-room _ _ _ _ (omega (arith, c.in_default.ensures.cases)))) (gives-silence _ _ _ _ (search rules))

pub returns-then-ours : goal.returns-then-ours
returns-then-ours c =
    let short = reply-short c.args.table.now c.args.address c.args.body.now in
    gives-by (sym (within-room _ _ _ _ (omega (arith, c.in-Some.ensures.cases.enough))))
    (gives-front _ c.in-Some.ensures.cases.enough (omega arith) c.in-Some.ensures.cases.same
    (gives-by (sym (acted-ours _ _ _ (grind (arith, common_steps)))) c.obey.ensures))

pub returns-else-ours : goal.returns-else-ours
returns-else-ours c =
    let short = reply-short c.args.table.now c.args.address c.args.body.now in
    gives-by (sym (within-room _ _ _ _ (omega (arith, c.in-Some.ensures.cases.enough))))
    (gives-front _ c.in-Some.ensures.cases.enough (omega arith) c.in-Some.ensures.cases.same
    (gives-by (sym (acted-other _ _ _ (grind (arith, common_steps)))) (gives-silence _ _ _ _ (search rules))))
