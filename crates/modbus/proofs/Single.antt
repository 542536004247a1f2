-- Each public function of this crate promises one outcome.
-- Assumes nothing.
use mathlib.Core.Path.{◌≡◌, refl, ap₂}
use mathlib.Core.List.{List}
use Prim.Native.Nat.{ℕ}
use Rattle.numbers.specs.Promise.{OneOutcome}
use Rattle.numbers.proofs.Single.{single, ◌&◌}
use Rattle.modbus.specs.declared.Answered.{Answered}
use Rattle.modbus.specs.Promise.{Sends}
use Rattle.modbus.proofs as modbus
use Rattle.modbus.specs.contracts as contract

-- two answers that send one reply with one number
pub answer-single : {number : ℕ} {reply : List ℕ} {r s : Answered} {before after other : List ℕ}
    → Sends number reply r before after → Sends number reply s before other → r ≡ s
answer-single p q =
    ap₂ (λ (n l : ℕ). record { number = n; len = l }) (single p.given q.given) (single p.len q.len)

pub ours : OneOutcome contract.ours.ended modbus.ours.Reads.Asked modbus.ours.Reads.Post
ours = record { asks_nothing = λ κs a. tt; single = λ κs a o u p q. single p q & refl }

pub respond : OneOutcome contract.respond.ended modbus.respond.Reads.Asked modbus.respond.Reads.Post
respond =
    record {
      asks_nothing = λ κs a. tt;
      single = λ κs a o u p q.
          answer-single p.sends q.sends & single p.table q.table & single p.sends.sent q.sends.sent & refl;
    }
