-- The function picks the handler.
use Rattle.std.proofs.Common.{refl, arith}
use Rattle.modbus.proofs.Acting.{obeying-read, obeying-write, obeying-loopback, obeying-several, obeying-other}
use Rattle.modbus.proofs.serve.Goals as goal

pub returns-in-3 : goal.returns-in-3
returns-in-3 c = rw (obeying-read c.args.table.now c.args.body.now c.in-3.is) c.read.ensures

pub returns-in-6 : goal.returns-in-6
returns-in-6 c = rw (obeying-write c.args.table.now c.args.body.now c.in-6.is) c.write.ensures

pub returns-in-8 : goal.returns-in-8
returns-in-8 c = rw (obeying-loopback c.args.table.now c.args.body.now c.in-8.is) (c.loop_back.ensures _)

pub returns-in-16 : goal.returns-in-16
returns-in-16 c = rw (obeying-several c.args.table.now c.args.body.now c.in-16.is) c.write_several.ensures

pub returns-in_default : goal.returns-in_default
returns-in_default c =
    record {
      code = omega arith;
      outcome = obeying-other _ _ (λ e. omega arith) (λ e. omega arith) (λ e. omega arith) (λ e. omega arith);
      unsent = refl;
    }
