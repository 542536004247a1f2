-- A fault is refused, else the registers are sent.
use Rattle.std.proofs.Common.{refl}
use Rattle.std.proofs.lemmas.Result.{err_from_is_err_and}
use Rattle.registers.proofs.Faults.{read-numbered}
use Rattle.modbus.specs.Rules.{reading}
use Rattle.modbus.proofs.Acting.{refused, accepted}
use Rattle.modbus.proofs.read.Goals as goal

pub returns-in_err-read_fault : goal.returns-in_err-read_fault
unfolding reading
returns-in_err-read_fault c =
    let given = err_from_is_err_and c.from_residual.result c.from_residual.ensures.1 in
    rw (given.1, given.2) (refused _ _ _ _ (read-numbered _) c.in_err-read_fault.ensures refl)

pub returns : goal.returns
unfolding reading
returns c = accepted _ _ _ _ c.in_ok-read_fault.ensures c.send_registers.ensures refl refl
