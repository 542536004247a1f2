-- Each public function of this crate promises one outcome.
-- Assumes nothing.
use mathlib.Core.Path.{refl}
use Rattle.numbers.specs.Promise.{OneOutcome}
use Rattle.numbers.proofs.Single.{single, ◌&◌}
use Rattle.settings.proofs as settings
use Rattle.settings.specs.contracts as contract

pub accepts-write : OneOutcome contract.accepts_write.ended settings.accepts_write.Reads.Asked settings.accepts_write.Reads.Post
accepts-write = record { asks_nothing = λ κs a. tt; single = λ κs a o u p q. single p q & refl }

pub given_by : OneOutcome contract.given_by.ended settings.given_by.Reads.Asked settings.given_by.Reads.Post
given_by = record { asks_nothing = λ κs a. tt; single = λ κs a o u p q. single p q & refl }
