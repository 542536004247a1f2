-- Three stores at the buffer's front are the reply.
use Rattle.std.proofs.Common.{refl}
use Rattle.modbus.specs.Outcome.{exception_reply}
use Rattle.modbus.proofs.exception.Goals as goal

pub returns : goal.returns
unfolding exception_reply
returns c = record { given = c.number-number.ensures; len = refl; sent = rw (c.top_bit_set.ensures, c.number-number.ensures) }
