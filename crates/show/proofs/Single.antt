-- Each public function of this crate promises one outcome: it gives nothing back, and what it is lent it only reads. What is printed no
-- contract can say.
-- Assumes nothing.
use mathlib.Core.Path.{refl}
use Rattle.numbers.specs.Promise.{OneOutcome}
use Rattle.numbers.proofs.Single.{◌&◌}
use Rattle.show.proofs as show
use Rattle.show.specs.contracts as contract

pub text : OneOutcome contract.text.ended show.text.Reads.Asked show.text.Reads.Post
text = record { asks_nothing = λ κs a. tt; single = λ κs a o u p q. refl & refl }

pub arrow : OneOutcome contract.arrow.ended show.arrow.Reads.Asked show.arrow.Reads.Post
arrow = record { asks_nothing = λ κs a. tt; single = λ κs a o u p q. refl & refl }

pub end-of-line : OneOutcome contract.end_of_line.ended show.end_of_line.Reads.Asked show.end_of_line.Reads.Post
end-of-line = record { asks_nothing = λ κs a. tt; single = λ κs a o u p q. refl & refl }

pub byte : OneOutcome contract.byte.ended show.byte.Reads.Asked show.byte.Reads.Post
byte = record { asks_nothing = λ κs a. tt; single = λ κs a o u p q. refl & refl }

pub part : OneOutcome contract.part.ended show.part.Reads.Asked show.part.Reads.Post
part = record { asks_nothing = λ κs a. tt; single = λ κs a o u p q. refl & refl }

pub bytes : OneOutcome contract.bytes.ended show.bytes.Reads.Asked show.bytes.Reads.Post
bytes = record { asks_nothing = λ κs a. tt; single = λ κs a o u p q. refl & refl }

pub word : OneOutcome contract.word.ended show.word.Reads.Asked show.word.Reads.Post
word = record { asks_nothing = λ κs a. tt; single = λ κs a o u p q. refl & refl }

pub quoted : OneOutcome contract.quoted.ended show.quoted.Reads.Asked show.quoted.Reads.Post
quoted = record { asks_nothing = λ κs a. tt; single = λ κs a o u p q. refl & refl }

pub number : OneOutcome contract.number.ended show.number.Reads.Asked show.number.Reads.Post
number = record { asks_nothing = λ κs a. tt; single = λ κs a o u p q. refl & refl }

pub numbers : OneOutcome contract.numbers.ended show.numbers.Reads.Asked show.numbers.Reads.Post
numbers = record { asks_nothing = λ κs a. tt; single = λ κs a o u p q. refl & refl }

pub answer : OneOutcome contract.answer.ended show.answer.Reads.Asked show.answer.Reads.Post
answer = record { asks_nothing = λ κs a. tt; single = λ κs a o u p q. refl & refl }

pub count : OneOutcome contract.count.ended show.count.Reads.Asked show.count.Reads.Post
count = record { asks_nothing = λ κs a. tt; single = λ κs a o u p q. refl & refl }
