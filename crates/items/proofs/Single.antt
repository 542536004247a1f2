-- Each public function of this crate promises one outcome.
-- Assumes nothing.
use mathlib.Core.Path.{refl}
use Rattle.numbers.specs.Promise.{OneOutcome}
use Rattle.numbers.proofs.Single.{single, ◌&◌}
use Rattle.items.proofs as items
use Rattle.items.specs.contracts as contract

pub identifier : OneOutcome contract.identifier.ended items.identifier.Reads.Asked items.identifier.Reads.Post
identifier = record { asks_nothing = λ κs a. tt; single = λ κs a o u p q. single p q & refl }

pub writable : OneOutcome contract.writable.ended items.writable.Reads.Asked items.writable.Reads.Post
writable = record { asks_nothing = λ κs a. tt; single = λ κs a o u p q. single p q & refl }

pub decimals : OneOutcome contract.decimals.ended items.decimals.Reads.Asked items.decimals.Reads.Post
decimals = record { asks_nothing = λ κs a. tt; single = λ κs a o u p q. single p q & refl }

pub listed : OneOutcome contract.listed.ended items.listed.Reads.Asked items.listed.Reads.Post
listed = record { asks_nothing = λ κs a. tt; single = λ κs a o u p q. single p q & refl }

pub find : OneOutcome contract.find.ended items.find.Reads.Asked items.find.Reads.Post
find = record { asks_nothing = λ κs a. tt; single = λ κs a o u p q. single p q & refl }

pub place-of : OneOutcome contract.place_of.ended items.place_of.Reads.Asked items.place_of.Reads.Post
place-of = record { asks_nothing = λ κs a. tt; single = λ κs a o u p q. single p q & refl }

pub find-register : OneOutcome contract.find_register.ended items.find_register.Reads.Asked items.find_register.Reads.Post
find-register = record { asks_nothing = λ κs a. tt; single = λ κs a o u p q. single p q & refl }

pub in-range : OneOutcome contract.in_range.ended items.in_range.Reads.Asked items.in_range.Reads.Post
in-range = record { asks_nothing = λ κs a. tt; single = λ κs a o u p q. single p q & refl }
