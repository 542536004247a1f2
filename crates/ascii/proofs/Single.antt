-- Each public function of this crate promises one outcome.
-- Assumes nothing.
use Rattle.std.proofs.Common.{refl}
use Rattle.numbers.specs.Promise.{OneOutcome}
use Rattle.numbers.proofs.Single.{single, ◌&◌}
use Rattle.modbus.proofs.Single.{answer-single}
use Rattle.ascii.proofs as ascii
use Rattle.ascii.specs.contracts as contract

pub lrc : OneOutcome contract.lrc.ended ascii.lrc.Reads.Asked ascii.lrc.Reads.Post
lrc = record { asks_nothing = λ κs a. tt; single = λ κs a o u p q. single p q & refl }

pub line : OneOutcome contract.line.ended ascii.line.Reads.Asked ascii.line.Reads.Post
line =
    record {
      asks_nothing = λ κs a. tt;
      single = λ κs a o u p q.
          answer-single p.sends q.sends & single p.table q.table & single p.sends.sent q.sends.sent & refl;
    }
