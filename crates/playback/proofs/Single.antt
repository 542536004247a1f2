-- Each public function of this crate promises one outcome.
-- Assumes nothing.
use mathlib.Core.Path.{refl}
use Rattle.numbers.specs.Promise.{OneOutcome}
use Rattle.numbers.proofs.Refusals.{lent-given}
use Rattle.numbers.proofs.Single.{single, ◌&◌}
use Rattle.playback.proofs as playback
use Rattle.playback.specs.contracts as contract

pub wrote : OneOutcome contract.wrote.ended playback.wrote.Reads.Asked playback.wrote.Reads.Post
wrote = record { asks_nothing = λ κs a. tt; single = λ κs a o u p q. single p q & refl }

pub play : OneOutcome contract.play.ended playback.play.Reads.Asked playback.play.Reads.Post
play = record { asks_nothing = λ κs a. tt; single = λ κs a o u p q. let e = lent-given p q in e.0 & e.1 & refl }
