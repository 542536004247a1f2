-- Each public function of this crate promises one outcome.
-- Assumes nothing.
use mathlib.Core.Path.{refl}
use Rattle.numbers.specs.Promise.{OneOutcome}
use Rattle.numbers.proofs.Single.{single, ◌&◌}
use Rattle.numbers.proofs.Refusals.{same-given}
use Rattle.registers.proofs as registers
use Rattle.registers.specs.contracts as contract

pub byte_at : OneOutcome contract.byte_at.ended registers.byte_at.Reads.Asked registers.byte_at.Reads.Post
byte_at = record { asks_nothing = λ κs a. tt; single = λ κs a o u p q. single p q & refl }

pub first-word : OneOutcome contract.first_word.ended registers.first_word.Reads.Asked registers.first_word.Reads.Post
first-word = record { asks_nothing = λ κs a. tt; single = λ κs a o u p q. single p q & refl }

pub second_word : OneOutcome contract.second_word.ended registers.second_word.Reads.Asked registers.second_word.Reads.Post
second_word = record { asks_nothing = λ κs a. tt; single = λ κs a o u p q. single p q & refl }

pub word : OneOutcome contract.word.ended registers.word.Reads.Asked registers.word.Reads.Post
word = record { asks_nothing = λ κs a. tt; single = λ κs a o u p q. single p q & refl }

pub of-register : OneOutcome contract.of_register.ended registers.of_register.Reads.Asked registers.of_register.Reads.Post
of-register = record { asks_nothing = λ κs a. tt; single = λ κs a o u p q. single p q & refl }

pub register-at : OneOutcome contract.register_at.ended registers.register_at.Reads.Asked registers.register_at.Reads.Post
register-at = record { asks_nothing = λ κs a. tt; single = λ κs a o u p q. single p q & refl }

pub read-fault : OneOutcome contract.read_fault.ended registers.read_fault.Reads.Asked registers.read_fault.Reads.Post
read-fault = record { asks_nothing = λ κs a. tt; single = λ κs a o u p q. same-given (single p q) & refl }

pub right-counts : OneOutcome contract.right_counts.ended registers.right_counts.Reads.Asked registers.right_counts.Reads.Post
right-counts = record { asks_nothing = λ κs a. tt; single = λ κs a o u p q. single p q & refl }

pub loopback-fault : OneOutcome contract.loopback_fault.ended registers.loopback_fault.Reads.Asked registers.loopback_fault.Reads.Post
loopback-fault = record { asks_nothing = λ κs a. tt; single = λ κs a o u p q. same-given (single p q) & refl }
