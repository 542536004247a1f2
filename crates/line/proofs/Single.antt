-- Each public function of this crate promises one outcome.
-- Assumes nothing.
use mathlib.Core.Path.{refl}
use Rattle.numbers.specs.Promise.{OneOutcome}
use Rattle.numbers.proofs.Single.{single, ◌&◌}
use Rattle.line.proofs as line
use Rattle.line.specs.contracts as contract

pub low_seven : OneOutcome contract.low_seven.ended line.low_seven.Reads.Asked line.low_seven.Reads.Post
low_seven = record { asks_nothing = λ κs a. tt; single = λ κs a o u p q. single p q & refl }

pub keeps : OneOutcome contract.keeps.ended line.keeps.Reads.Asked line.keeps.Reads.Post
keeps = record { asks_nothing = λ κs a. tt; single = λ κs a o u p q. single p q & refl }

pub heard : OneOutcome contract.heard.ended line.heard.Reads.Asked line.heard.Reads.Post
heard = record { asks_nothing = λ κs a. tt; single = λ κs a o u p q. single p q & refl }

pub sent : OneOutcome contract.sent.ended line.sent.Reads.Asked line.sent.Reads.Post
sent = record { asks_nothing = λ κs a. tt; single = λ κs a o u p q. single p q & refl }

pub bcc : OneOutcome contract.bcc.ended line.bcc.Reads.Asked line.bcc.Reads.Post
bcc = record { asks_nothing = λ κs a. tt; single = λ κs a o u p q. single p q & refl }
