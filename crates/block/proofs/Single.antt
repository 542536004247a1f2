-- The one public function of this crate promises one outcome.
-- Assumes nothing.
use mathlib.Core.Path.{refl}
use Rattle.numbers.specs.Promise.{OneOutcome}
use Rattle.numbers.proofs.Single.{◌&◌}
use Rattle.block.proofs.Laws.{one-verdict}
use Rattle.block.proofs as block
use Rattle.block.specs.contracts as contract

pub judge : OneOutcome contract.judge.ended block.judge.Reads.Asked block.judge.Reads.Post
judge = record { asks_nothing = λ κs a. tt; single = λ κs a o u p q. one-verdict _ _ _ _ _ _ o.0 u.0 p q & refl }
