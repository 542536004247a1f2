-- The loop's invariant: what was judged so far, and what is left to be judged, come to what all writes are judged by.
use Rattle.registers.specs.Faults.{data_place}
use Rattle.writes.specs.Asked.{left}
use Rattle.writes.specs.Requests.{writes_from}
use Rattle.writes.proofs.Data.{Judged}
use Rattle.writes.proofs.several_fault.Given as goal

abbrev pub invariant-loop-place : goal.invariant-loop-place
invariant-loop-place l = Judged (writes_from data_place l.body) (left l.place-iterator) l.inside
