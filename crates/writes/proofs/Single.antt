-- Each public function of this crate promises one outcome.
-- Assumes nothing.
use mathlib.Core.Path.{refl}
use Rattle.numbers.specs.Promise.{OneOutcome}
use Rattle.numbers.proofs.Refusals.{lent-given}
use Rattle.numbers.proofs.Single.{single, ◌&◌}
use Rattle.writes.proofs as writes
use Rattle.writes.specs.contracts as contract

pub write-one : OneOutcome contract.write_one.ended writes.write_one.Reads.Asked writes.write_one.Reads.Post
write-one = record { asks_nothing = λ κs a. tt; single = λ κs a o u p q. let e = lent-given p q in e.0 & e.1 & refl }

pub write-several : OneOutcome contract.write_several.ended writes.write_several.Reads.Asked writes.write_several.Reads.Post
write-several = record { asks_nothing = λ κs a. tt; single = λ κs a o u p q. let e = lent-given p q in e.0 & e.1 & refl }

pub all-allowed : OneOutcome contract.all_allowed.ended writes.all_allowed.Reads.Asked writes.all_allowed.Reads.Post
all-allowed = record { asks_nothing = λ κs a. tt; single = λ κs a o u p q. single p q & refl }

pub given_to : OneOutcome contract.given_to.ended writes.given_to.Reads.Asked writes.given_to.Reads.Post
given_to = record { asks_nothing = λ κs a. tt; single = λ κs a o u p q. single p q & refl }
