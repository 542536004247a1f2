-- Each public function of this crate promises one outcome.
-- Assumes nothing.
use mathlib.Core.Path.{refl}
use Rattle.std.specs.Prelude.{pos}
use Rattle.numbers.specs.Promise.{OneOutcome}
use Rattle.numbers.proofs.Refusals.{same-outcome}
use Rattle.numbers.proofs.Single.{single, ◌&◌}
use Rattle.text.specs.Numbers.{width}
use Rattle.text.proofs.Texts.{same-written}
use Rattle.text.proofs as text
use Rattle.text.specs.contracts as contract

pub read : OneOutcome contract.read.ended text.read.Reads.Asked text.read.Reads.Post
read =
    record {
      asks_nothing = λ κs a. tt;
      single = λ κs a o u p q. same-outcome (pos 0) o.0 u.0 (single p.number q.number) (single p.value q.value) & refl;
    }

pub write : OneOutcome contract.write.ended text.write.Reads.Asked text.write.Reads.Post
write = record { asks_nothing = λ κs a. tt; single = λ κs a o u p q. same-written width o.0 u.0 (single p q) & refl }

pub value_of : OneOutcome contract.value_of.ended text.value_of.Reads.Asked text.value_of.Reads.Post
value_of = record { asks_nothing = λ κs a. tt; single = λ κs a o u p q. single p q & refl }

pub characters_of : OneOutcome contract.characters_of.ended text.characters_of.Reads.Asked text.characters_of.Reads.Post
characters_of = record { asks_nothing = λ κs a. tt; single = λ κs a o u p q. single p q & refl }
