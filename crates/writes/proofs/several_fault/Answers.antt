-- Each way out is one of the rules of a request to write.
use Rattle.std.proofs.Common.{sym, ap, ◌∙◌, Bool}
use Rattle.numbers.specs.Numbers.{unless}
use Rattle.registers.specs.Faults.{wrong_data}
use Rattle.writes.specs.Requests.{several_fault}
use Rattle.writes.proofs.Data.{judged-fails, judged-all}
use Rattle.writes.proofs.Faults.{form-wrong, register-wrong, registers-right}
use Rattle.writes.proofs.several_fault.Goals as goal

pub returns-then-not-right_counts : goal.returns-then-not-right_counts
unfolding several_fault
returns-then-not-right_counts c = sym (form-wrong _ _ (sym c.right_counts.ensures ∙ c.if-not-right_counts.true))

pub returns-then-not-writable : goal.returns-then-not-writable
unfolding several_fault
returns-then-not-writable c =
    sym (register-wrong _ _ (sym c.right_counts.ensures ∙ c.if-not-right_counts.false)
    (judged-fails _ c.loop-place.invariant _ _ c.in-Some.ensures.steps (sym c.writable.ensures ∙ c.if-not-writable.true)))

pub returns-then-inside : goal.returns-then-inside
unfolding several_fault
returns-then-inside c =
    let judged = judged-all _ c.loop-place.invariant c.in-None.ensures.steps.0 in
    sym (registers-right _ _ (sym c.right_counts.ensures ∙ c.if-not-right_counts.false) judged.0 judged.1
    ∙ ap (λ (b : Bool). unless b wrong_data) c.if-inside.true)

pub returns-else-inside : goal.returns-else-inside
unfolding several_fault
returns-else-inside c =
    let judged = judged-all _ c.loop-place.invariant c.in-None.ensures.steps.0 in
    sym (registers-right _ _ (sym c.right_counts.ensures ∙ c.if-not-right_counts.false) judged.0 judged.1
    ∙ ap (λ (b : Bool). unless b wrong_data) c.if-inside.false)
