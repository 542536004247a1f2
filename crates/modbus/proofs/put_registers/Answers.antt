-- A turn stores the next register.
use Rattle.std.proofs.Common.{◌≡◌, ◌∙◌, ◌/◌, ◌%◌, get_or, arith}
use Rattle.modbus.proofs.Stores.{registers-turn}
use Rattle.modbus.proofs.put_registers.Goals as goal

pub loop-i-preserved : goal.loop-i-preserved
loop-i-preserved c =
    let w = c.register_at.result in
    let high : get_or c.to_be_bytes.result 0 0 ≡ w / 256 = rw c.to_be_bytes.ensures (omega arith) in
    let low : get_or c.to_be_bytes.result 1 0 ≡ w % 256 = rw c.to_be_bytes.ensures (omega arith) in
    record {
      within = omega arith;
      left =
          rw (c.from.ensures, high, low)
          (registers-turn c.args.table.now c.loop-i.reply c.args.start c.args.quantity c.loop-i.i w c.loop-i-test.true c.register_at.ensures
          ∙ c.loop-i.invariant.left);
    }
