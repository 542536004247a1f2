-- The table has the length that takes start values.
use Rattle.std.proofs.Common.{refl}
use Rattle.table.specs.Table.{start_number, start_table}
use Rattle.instrument.proofs.Instrument.start.Goals as goal

pub returns : goal.returns
unfolding start_table start_number
returns c = rw (c.start.ensures.left, c.start-2.ensures) refl
