-- A refusal leaves all, and any other frame is answered.
use Rattle.std.proofs.Common.{refl, sym, ◌∙◌}
use Rattle.numbers.proofs.Refusals.{refusal-met}
use Rattle.rtu.proofs.Demands.{acts-refused, acts-answered}
use Rattle.rtu.proofs.frame.Goals as goal

pub returns-in-Err : goal.returns-in-Err
returns-in-Err c = acts-refused _ _ (c.number.ensures ∙ c.in-Err.ensures) (λ z. refusal-met _ (sym c.number.ensures ∙ z))

pub returns : goal.returns
returns c = acts-answered _ _ c.in_default.ensures refl c.answer.ensures
