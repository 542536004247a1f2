-- The public function of this crate promises one outcome.
-- Assumes nothing.
use mathlib.Core.Path.{refl}
use Rattle.numbers.specs.Promise.{OneOutcome}
use Rattle.numbers.proofs.Single.{single, ◌&◌}
use Rattle.floats.proofs as floats
use Rattle.floats.specs.contracts as contract

pub bits : OneOutcome contract.bits.ended floats.bits.Reads.Asked floats.bits.Reads.Post
bits = record { asks_nothing = λ κs a. tt; single = λ κs a o u p q. single p q & refl }
