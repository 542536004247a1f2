-- The stores leave the line of the body that was there.
use Rattle.ascii.proofs.Written.{writes}
use Rattle.ascii.proofs.write_line.Goals as goal

pub returns : goal.returns
returns c = writes c.args.buffer.now c.args.n c.requires _ c.lrc-check.ensures c.spread.ensures c.put_hex.ensures
