-- Each public function of this crate promises one outcome.
-- Assumes nothing.
use mathlib.Core.Path.{refl}
use Rattle.numbers.specs.Promise.{OneOutcome}
use Rattle.numbers.proofs.Refusals.{same-given}
use Rattle.numbers.proofs.Single.{single, ◌&◌}
use Rattle.call.proofs as call
use Rattle.call.specs.contracts as contract

pub is_address : OneOutcome contract.is_address.ended call.is_address.Reads.Asked call.is_address.Reads.Post
is_address = record { asks_nothing = λ κs a. tt; single = λ κs a o u p q. single p q & refl }

pub fault : OneOutcome contract.fault.ended call.fault.Reads.Asked call.fault.Reads.Post
fault = record { asks_nothing = λ κs a. tt; single = λ κs a o u p q. same-given (single p q) & refl }
