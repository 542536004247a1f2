-- Each public function of this crate promises one outcome. What is printed no contract can say.
-- Assumes nothing.
use mathlib.Core.Path.{refl}
use Rattle.numbers.specs.Promise.{OneOutcome}
use Rattle.numbers.proofs.Single.{single, ◌&◌}
use Rattle.instrument.proofs.Heard.{hears-next}
use Rattle.instrument.proofs as instrument
use Rattle.instrument.specs.contracts as contract

pub start : OneOutcome contract.Instrument.start.ended instrument.Instrument.start.Reads.Asked instrument.Instrument.start.Reads.Post
start = record { asks_nothing = λ κs a. tt; single = λ κs a o u p q. single p q & refl }

pub with : OneOutcome contract.Instrument.with.ended instrument.Instrument.with.Reads.Asked instrument.Instrument.with.Reads.Post
with = record { asks_nothing = λ κs a. tt; single = λ κs a o u p q. single p q & refl }

pub hear : OneOutcome contract.Instrument.hear.ended instrument.Instrument.hear.Reads.Asked instrument.Instrument.hear.Reads.Post
hear =
    record {
      asks_nothing = λ κs a. tt;
      single = λ κs a o u p q.
          single p.0.steps.back q.0.steps.back
          & single (hears-next _ _ _ p.0 p.1).left (hears-next _ _ _ q.0 q.1).left
          & single p.0.steps.sent q.0.steps.sent
          & refl;
    }

pub bring : OneOutcome contract.Instrument.bring.ended instrument.Instrument.bring.Reads.Asked instrument.Instrument.bring.Reads.Post
bring =
    record {
      asks_nothing = λ κs a. tt;
      single = λ κs a o u p q. single p.back q.back & single p.left q.left & refl & refl;
    }

pub replies : OneOutcome contract.replies.ended instrument.replies.Reads.Asked instrument.replies.Reads.Post
replies = record { asks_nothing = λ κs a. tt; single = λ κs a o u p q. refl & refl }

pub block : OneOutcome contract.block.ended instrument.block.Reads.Asked instrument.block.Reads.Post
block = record { asks_nothing = λ κs a. tt; single = λ κs a o u p q. refl & refl }
