-- A line with a fault is refused, and any other is answered by its body.
use Rattle.std.proofs.Common.{refl, arith}
use Rattle.numbers.proofs.Refusals.{refusal-met}
use Rattle.ascii.proofs.Answers.{looked, line_refused, has-bytes, line-answered}
use Rattle.ascii.proofs.line.Goals as goal

pub returns-in-Err : goal.returns-in-Err
returns-in-Err c =
    line_refused _ _ (looked _ _ c.take_apart.result c.unwrap_or-n.ensures c.take_apart.ensures c.in-Err.ensures) (refusal-met _) c.refuse.ensures

pub overflow_sub-n : goal.overflow_sub-n
overflow_sub-n c =
    let number = has-bytes (record { table = c.args.table.now; buffer = c.args.reply.now; address = c.args.address }) c.args.line.now
    (looked _ _ c.take_apart.result c.unwrap_or-n.ensures c.take_apart.ensures c.in_default.ensures) refl in
    omega (arith, number.0)

pub answer-requires : goal.answer-requires
answer-requires c =
    let number = has-bytes (record { table = c.args.table.now; buffer = c.args.reply.now; address = c.args.address }) c.args.line.now
    (looked _ _ c.take_apart.result c.unwrap_or-n.ensures c.take_apart.ensures c.in_default.ensures) refl in
    let low = number.0 in
    let high = number.1 in
    (omega arith, omega arith)

pub returns : goal.returns
returns c =
    line-answered _ _ (looked _ _ c.take_apart.result c.unwrap_or-n.ensures c.take_apart.ensures c.in_default.ensures) refl c.answer.ensures
