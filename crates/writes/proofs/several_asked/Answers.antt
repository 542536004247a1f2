-- A body with right counts has data behind the byte count.
use Rattle.std.proofs.Common.{ap₂, arith}
use Rattle.registers.specs.Faults.{data_place}
use Rattle.registers.proofs.Faults.{counted}
use Rattle.writes.specs.Writes.{writes}
use Rattle.writes.proofs.Data.{to_the_end}
use Rattle.writes.proofs.several_asked.Goals as goal

pub slice_bounds-result-count : goal.slice_bounds-result-count
slice_bounds-result-count c = let k = counted c.args.body.now c.requires.counts in omega arith

pub slice_bounds-result-start : goal.slice_bounds-result-start
slice_bounds-result-start c = let k = counted c.args.body.now c.requires.counts in omega arith

pub returns : goal.returns
returns c = ap₂ writes c.first_word.ensures (to_the_end data_place c.args.body.now)
