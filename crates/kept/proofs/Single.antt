-- Each public function of this crate promises one outcome.
-- Assumes nothing.
use mathlib.Core.Path.{refl}
use Rattle.numbers.specs.Promise.{OneOutcome}
use Rattle.numbers.proofs.Single.{single, ◌&◌}
use Rattle.kept.proofs as kept
use Rattle.kept.specs.contracts as contract

pub from_low : OneOutcome contract.from_low.ended kept.from_low.Reads.Asked kept.from_low.Reads.Post
from_low = record { asks_nothing = λ κs a. tt; single = λ κs a o u p q. single p q & refl }

pub up_to : OneOutcome contract.up_to.ended kept.up_to.Reads.Asked kept.up_to.Reads.Post
up_to = record { asks_nothing = λ κs a. tt; single = λ κs a o u p q. single p q & refl }

pub keep : OneOutcome contract.keep.ended kept.keep.Reads.Asked kept.keep.Reads.Post
keep = record { asks_nothing = λ κs a. tt; single = λ κs a o u p q. single p q & refl }
