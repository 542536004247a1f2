-- Each public function of this crate promises one outcome.
-- Assumes nothing.
use mathlib.Core.Path.{refl}
use Rattle.numbers.specs.Promise.{OneOutcome}
use Rattle.numbers.proofs.Single.{single, ◌&◌}
use Rattle.state.proofs as state
use Rattle.state.specs.contracts as contract

pub unpack : OneOutcome contract.unpack.ended state.unpack.Reads.Asked state.unpack.Reads.Post
unpack = record { asks_nothing = λ κs a. tt; single = λ κs a o u p q. single p q & refl }

pub pack : OneOutcome contract.pack.ended state.pack.Reads.Asked state.pack.Reads.Post
pack = record { asks_nothing = λ κs a. tt; single = λ κs a o u p q. refl & single p q & refl }
