-- Each public function of this crate promises one outcome: state, number and length, and then table and reply buffer.
-- Assumes nothing.
use Rattle.std.proofs.Common.{refl}
use Rattle.numbers.specs.Promise.{OneOutcome}
use Rattle.numbers.proofs.Single.{single, ◌&◌}
use Rattle.rkc.proofs.Link as Link
use Rattle.rkc.specs.contracts as contract

pub start : OneOutcome contract.Link.start.ended Link.start.Reads.Asked Link.start.Reads.Post
start = record { asks_nothing = λ κs a. tt; single = λ κs a o u p q. single p q & refl }

pub byte : OneOutcome contract.Link.byte.ended Link.byte.Reads.Asked Link.byte.Reads.Post
byte = record {
  asks_nothing = λ κs a. tt;
  single = λ κs a o u p q.
      single p.steps.back q.steps.back & refl & single p.left q.left & single p.steps.sent q.steps.sent & refl;
}

pub idle : OneOutcome contract.Link.idle.ended Link.idle.Reads.Asked Link.idle.Reads.Post
idle = record {
  asks_nothing = λ κs a. tt;
  single = λ κs a o u p q. single p.back q.back & refl & single p.sent q.sent & refl;
}
