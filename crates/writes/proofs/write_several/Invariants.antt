-- The loop's invariant: storing what is left makes the table that storing all makes.
use Rattle.std.proofs.Common.{◌≡◌}
use Rattle.registers.specs.Faults.{data_place}
use Rattle.writes.specs.Asked.{left}
use Rattle.writes.specs.Writes.{stored_all}
use Rattle.writes.specs.Requests.{writes_from}
use Rattle.writes.proofs.write_several.Given as goal

abbrev pub invariant-loop-place : goal.invariant-loop-place
invariant-loop-place l = stored_all l.table (left l.place-iterator) ≡ stored_all l.fn.table (writes_from data_place l.body)
