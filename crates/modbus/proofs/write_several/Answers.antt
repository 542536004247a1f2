-- A fault, which leaves the table, is refused, else the items have their values, and what stands in front of the byte count comes back.
use Rattle.std.proofs.Common.{refl, sym, arith}
use Rattle.std.proofs.lemmas.List.{length-take-le}
use Rattle.std.proofs.lemmas.Result.{err_from_is_err_and}
use Rattle.numbers.proofs.Refusals.{refusal-met}
use Rattle.registers.proofs.Faults.{counted}
use Rattle.writes.proofs.Faults.{left-none, left-all, several-numbered, several-allowed}
use Rattle.modbus.specs.Rules.{writing_several}
use Rattle.modbus.proofs.Acting.{refused, accepted}
use Rattle.modbus.proofs.write_several.Goals as goal

pub returns-in_err-write_several : goal.returns-in_err-write_several
unfolding writing_several
returns-in_err-write_several c =
    let w = c.in_err-write_several.ensures in
    let given = err_from_is_err_and c.from_residual.result c.from_residual.ensures.1 in
    rw (given.1, given.2) (refused _ _ _ _ (several-numbered _) w.given (left-none _ _ _ w (refusal-met _)))

-- a request that meets no fault has what it counts
pub slice_bounds-echo-end : goal.slice_bounds-echo-end
slice_bounds-echo-end c =
    let k = counted c.args.body.now (several-allowed _ (sym c.in_ok-write_several.ensures.given)).form in
    sym (length-take-le _ c.args.body.now (omega arith))

pub returns : goal.returns
unfolding writing_several
returns c =
    let w = c.in_ok-write_several.ensures in
    accepted _ _ _ _ w.given c.echo.ensures refl (left-all _ _ _ w refl)
