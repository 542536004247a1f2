-- A fault is refused, else the request comes back.
use Rattle.std.proofs.Common.{refl, sym, arith}
use Rattle.std.proofs.lemmas.Result.{err_from_is_err_and}
use Rattle.registers.proofs.Faults.{loopback-numbered, loopback-accepted}
use Rattle.modbus.specs.Rules.{looping_back}
use Rattle.modbus.proofs.Acting.{refused, accepted}
use Rattle.modbus.proofs.loop_back.Goals as goal

pub returns-in_err-loopback_fault : goal.returns-in_err-loopback_fault
unfolding looping_back
returns-in_err-loopback_fault c t =
    let given = err_from_is_err_and c.from_residual.result c.from_residual.ensures.1 in
    rw (given.1, given.2) (refused _ t _ _ (loopback-numbered _) c.in_err-loopback_fault.ensures refl)

pub echo-requires : goal.echo-requires
echo-requires c = let six = loopback-accepted _ (sym c.in_ok-loopback_fault.ensures) in omega arith

pub returns : goal.returns
unfolding looping_back
returns c t = accepted _ t _ _ c.in_ok-loopback_fault.ensures c.echo.ensures refl refl
