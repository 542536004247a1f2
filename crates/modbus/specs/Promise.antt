-- The promise of a function that is lent a buffer for its reply.
use Rattle.std.specs.Prelude.{ℕ, ◌≤◌, ◌≡◌, List, ℤ, length, Result, Ok, Err}
use Rattle.std.proofs.lemmas.List.Edits.{sets}
use Rattle.numbers.specs.Numbers.{none}
use Rattle.numbers.specs.declared.Refusal.{Refusal}
use Rattle.numbers.specs.Refusals.{number_of}
use Rattle.modbus.specs.declared.Answered.{Answered}
use Rattle.modbus.specs.Outcome.{Outcome, exception}

-- it gives back this number and the reply's length; the reply stands at the buffer's front, and the bytes past it stay
pub record Sends (number : ℕ) (reply : List ℕ) (r : Answered) (before after : List ℕ) : Type 0 where
  pub given : r.number ≡ number
  pub len : r.len ≡ length reply
  pub sent : after ≡ sets before 0 reply

-- it gives this outcome: number, reply and table
pub record Gives (outcome : Outcome) (r : Answered) (before after : List ℕ) (left : List ℤ) : Type 0 where
  pub sends : Sends outcome.number outcome.reply r before after
  pub table : left ≡ outcome.table

-- this reply stands at the buffer's front, of this length, and the bytes past it stay
pub record Puts (reply : List ℕ) (n : ℕ) (before after : List ℕ) : Type 0 where
  pub len : n ≡ length reply
  pub sent : after ≡ sets before 0 reply

-- the outcome before its exception is sent: it is a refusal's exception, and the buffer stays yet
pub record Refuses (o : Outcome) (refusal : Refusal) (body before after : List ℕ) (left : List ℤ) : Type 0 where
  pub code : 30 ≤ number_of refusal
  pub outcome : o ≡ exception left body (number_of refusal)
  pub unsent : after ≡ before

-- it gives this outcome by a reply of this length, or refuses it
abbrev pub Serves : Outcome → List ℕ → Result ℕ Refusal → List ℕ → List ℕ → List ℤ → Type 0
Serves outcome body (Ok len) before after left = Gives outcome (record { number = none; len = len }) before after left
Serves outcome body (Err refusal) before after left = Refuses outcome refusal body before after left
