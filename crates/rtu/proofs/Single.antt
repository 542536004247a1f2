-- Each public function of this crate promises one outcome.
-- Assumes nothing.
use mathlib.Core.Path.{refl}
use Rattle.numbers.specs.Promise.{OneOutcome}
use Rattle.numbers.proofs.Refusals.{same-given}
use Rattle.numbers.proofs.Single.{single, ◌&◌}
use Rattle.modbus.proofs.Single.{answer-single}
use Rattle.rtu.proofs as rtu
use Rattle.rtu.specs.contracts as contract

pub frame-fault : OneOutcome contract.frame_fault.ended rtu.frame_fault.Reads.Asked rtu.frame_fault.Reads.Post
frame-fault = record { asks_nothing = λ κs a. tt; single = λ κs a o u p q. same-given (single p q) & refl }

pub frame : OneOutcome contract.frame.ended rtu.frame.Reads.Asked rtu.frame.Reads.Post
frame =
    record {
      asks_nothing = λ κs a. tt;
      single = λ κs a o u p q.
          let x = p.outcome in
          let y = q.outcome in
          answer-single x.sends y.sends & single x.table y.table & single x.sends.sent y.sends.sent & refl;
    }
