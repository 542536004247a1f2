-- Each public function of this crate promises one outcome.
-- Assumes nothing.
use mathlib.Core.Path.{refl}
use Rattle.numbers.specs.Promise.{OneOutcome}
use Rattle.numbers.proofs.Single.{single, ◌&◌}
use Rattle.numbers.proofs.Refusals.{same-given, lent-given}
use Rattle.table.proofs as table
use Rattle.table.specs.contracts as contract

pub check : OneOutcome contract.check.ended table.check.Reads.Asked table.check.Reads.Post
check = record { asks_nothing = λ κs a. tt; single = λ κs a o u p q. same-given (single p q) & refl }

pub keep-alarms : OneOutcome contract.keep_alarms.ended table.keep_alarms.Reads.Asked table.keep_alarms.Reads.Post
keep-alarms = record { asks_nothing = λ κs a. tt; single = λ κs a o u p q. refl & single p q & refl }

pub start : OneOutcome contract.start.ended table.start.Reads.Asked table.start.Reads.Post
start = record { asks_nothing = λ κs a. tt; single = λ κs a o u p q. let e = lent-given p q in e.0 & e.1 & refl }

pub answer : OneOutcome contract.answer.ended table.answer.Reads.Asked table.answer.Reads.Post
answer = record { asks_nothing = λ κs a. tt; single = λ κs a o u p q. single p q & refl }

pub xu : OneOutcome contract.xu.ended table.xu.Reads.Asked table.xu.Reads.Post
xu = record { asks_nothing = λ κs a. tt; single = λ κs a o u p q. single p q & refl }

pub store : OneOutcome contract.store.ended table.store.Reads.Asked table.store.Reads.Post
store = record { asks_nothing = λ κs a. tt; single = λ κs a o u p q. refl & single p q & refl }

pub put : OneOutcome contract.put.ended table.put.Reads.Asked table.put.Reads.Post
put = record { asks_nothing = λ κs a. tt; single = λ κs a o u p q. let e = lent-given p q in e.0 & e.1 & refl }
