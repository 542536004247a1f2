-- Each public function of this crate promises one outcome.
-- Assumes nothing.
use mathlib.Core.Path.{refl}
use Rattle.numbers.specs.Promise.{OneOutcome}
use Rattle.numbers.proofs.Single.{single, ◌&◌}
use Rattle.phases.proofs as phases
use Rattle.phases.specs.contracts as contract

pub decide : OneOutcome contract.decide.ended phases.decide.Reads.Asked phases.decide.Reads.Post
decide = record { asks_nothing = λ κs a. tt; single = λ κs a o u p q. single p q & refl }
