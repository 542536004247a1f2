-- The loop's invariant: storing the registers that are left gives the buffer that storing all of them gives.
use Rattle.std.proofs.Common.{◌≡◌, ◌-◌, ◌+◌, ◌*◌, ◌≤◌}
use Rattle.modbus.proofs.Stores.{registers_left}
use Rattle.modbus.proofs.put_registers.Given as goal

abbrev pub invariant-loop-i : goal.invariant-loop-i
invariant-loop-i l = record {
  within : l.i ≤ l.quantity;
  left : registers_left l.table l.reply (3 + 2 * l.i) (l.start + l.i) (l.quantity - l.i) ≡ registers_left l.table l.fn.reply 3 l.start l.quantity;
}

abbrev pub decreases-loop-i : goal.decreases-loop-i
decreases-loop-i l = l.quantity - l.i
