-- Each public function of this crate promises one outcome.
-- Assumes nothing.
use mathlib.Core.Path.{◌≡◌, refl, ap}
use Rattle.std.specs.Prelude.{Option, Some, None, is_some, unwrap_or}
use Rattle.numbers.specs.Promise.{OneOutcome}
use Rattle.numbers.proofs.Single.{single, ◌&◌}
use Rattle.crc.proofs as crc
use Rattle.crc.specs.contracts as contract

pub crc16 : OneOutcome contract.crc16.ended crc.crc16.Reads.Asked crc.crc16.Reads.Post
crc16 = record { asks_nothing = λ κs a. tt; single = λ κs a o u p q. single p q & refl }

pub is_right : OneOutcome contract.is_right.ended crc.is_right.Reads.Asked crc.is_right.Reads.Post
is_right = record { asks_nothing = λ κs a. tt; single = λ κs a o u p q. single p q & refl }

-- an outcome is told by whether it has a value, and by the value
same-option : {A : Type 0} (other : A) (x y : Option A) → is_some x ≡ is_some y → unwrap_or x other ≡ unwrap_or y other → x ≡ y
same-option other (Some x) (Some y) t v = ap Some v
same-option other None None t v = refl
same-option other (Some x) None t v = cc
same-option other None (Some y) t v = cc

pub seal : OneOutcome contract.seal.ended crc.seal.Reads.Asked crc.seal.Reads.Post
seal = record {
  asks_nothing = λ κs a. tt;
  single = λ κs a o u p q.
      same-option 0 o.0 u.0 (single p.1 q.1) (single p.0.handed q.0.handed) & single p.0.buffer q.0.buffer & refl;
}
