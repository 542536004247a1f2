-- A fault, which leaves the table, is refused, else the item has its value and the request comes back.
use Rattle.std.proofs.Common.{refl, sym, arith}
use Rattle.std.proofs.lemmas.Result.{err_from_is_err_and}
use Rattle.numbers.proofs.Refusals.{refusal-met}
use Rattle.writes.proofs.Faults.{left-none, left-all, write-numbered, write-long}
use Rattle.modbus.specs.Rules.{writing}
use Rattle.modbus.proofs.Acting.{refused, accepted}
use Rattle.modbus.proofs.write.Goals as goal

pub returns-in_err-write_one : goal.returns-in_err-write_one
unfolding writing
returns-in_err-write_one c =
    let w = c.in_err-write_one.ensures in
    let given = err_from_is_err_and c.from_residual.result c.from_residual.ensures.1 in
    rw (given.1, given.2) (refused _ _ _ _ (write-numbered _) w.given (left-none _ _ _ w (refusal-met _)))

-- a request that meets no fault is as long as it must be
pub echo-requires : goal.echo-requires
echo-requires c = let six = write-long c.args.body.now (sym c.in_ok-write_one.ensures.given) in omega arith

pub returns : goal.returns
unfolding writing
returns c =
    let w = c.in_ok-write_one.ensures in
    accepted _ _ _ _ w.given c.echo.ensures refl (left-all _ _ _ w refl)
