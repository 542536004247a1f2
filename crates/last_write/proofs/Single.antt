-- The public function of this crate promises one outcome.
-- Assumes nothing.
use Rattle.std.specs.Prelude.{Result, Ok, Err}
use mathlib.Core.Path.{◌≡◌, refl, sym, ap}
use mathlib.Core.List.{List}
use Prim.Native.Nat.{ℕ}
use Rattle.numbers.specs.declared.Refusal.{Refusal}
use Rattle.numbers.specs.Promise.{OneOutcome}
use Rattle.numbers.proofs.Refusals.{same-refusal, refusal-met}
use Rattle.numbers.proofs.Single.{single, ◌&◌}
use Rattle.last_write.specs.declared.LastWrite.{LastWrite}
use Rattle.last_write.specs.LastWrite.{Answer, answer_as, Question, Answers}
use Rattle.last_write.proofs as last_write
use Rattle.last_write.specs.contracts as contract

-- two answers to one question
pub answer-single : {q : Question} {c : List ℕ} {r s : Answer} → Answers q c r → Answers q c s → r ≡ s
answer-single p q =
    λ i.
    record {
      number = single p.given q.given i;
      written = single p.written q.written i;
      records = single p.read q.read i;
    }

-- an answer tells its outcome
same-answer : (x y : Result LastWrite Refusal) → answer_as x ≡ answer_as y → x ≡ y
same-answer (Ok x) (Ok y) e = λ i. Ok (record { written = (e i).written; records = (e i).records })
same-answer (Err r) (Err s) e = ap Err (same-refusal (ap (λ (a : Answer). a.number) e))
same-answer (Ok x) (Err s) e = absurd (refusal-met s (sym (ap (λ (a : Answer). a.number) e)))
same-answer (Err r) (Ok y) e = absurd (refusal-met r (ap (λ (a : Answer). a.number) e))

pub ask : OneOutcome contract.ask.ended last_write.ask.Reads.Asked last_write.ask.Reads.Post
ask = record { asks_nothing = λ κs a. tt; single = λ κs a o u p q. same-answer o.0 u.0 (answer-single p q) & refl }
