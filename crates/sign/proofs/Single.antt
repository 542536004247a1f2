-- Each public function of this crate promises one outcome.
-- Assumes nothing.
use mathlib.Core.Path.{refl}
use Rattle.numbers.specs.Promise.{OneOutcome}
use Rattle.numbers.proofs.Single.{single, ◌&◌}
use Rattle.sign.proofs as sign
use Rattle.sign.specs.contracts as contract

pub less : OneOutcome contract.less.ended sign.less.Reads.Asked sign.less.Reads.Post
less = record { asks_nothing = λ κs a. tt; single = λ κs a o u p q. single p q & refl }

pub size : OneOutcome contract.size.ended sign.size.Reads.Asked sign.size.Reads.Post
size = record { asks_nothing = λ κs a. tt; single = λ κs a o u p q. single p q & refl }

pub make : OneOutcome contract.make.ended sign.make.Reads.Asked sign.make.Reads.Post
make = record { asks_nothing = λ κs a. tt; single = λ κs a o u p q. single p q & refl }
