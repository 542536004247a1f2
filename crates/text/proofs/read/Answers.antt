-- Each test of the code is one of the definition's.
use Rattle.std.proofs.Common.{arith, rules, true, ap, Bool, Bor, List, ℕ, ℤ, Result, ◌≡◌, get_or, ◌∙◌}
use Rattle.std.proofs.lemmas.Result.{err_from_is_err_and}
use borrow.Author.Rules.{part_to_end}
use Rattle.numbers.specs.declared.Refusal.{Refusal}
use Rattle.text.specs.Characters.{minus_sign}
use Rattle.text.specs.Numbers.{width}
use Rattle.text.specs.Reading.{of_unsigned}
use Rattle.text.proofs.Readings.{read-decimals, read-long, read-text}
use Rattle.text.proofs.Steps.{with-minus, without-minus}
use Rattle.text.proofs.read.Goals as goal
use Rattle.text.proofs.read.Goals.{in-45, in_default}

pub returns-in_err-decimals : goal.returns-in_err-decimals
returns-in_err-decimals c =
    let given = err_from_is_err_and c.from_residual.result c.from_residual.ensures.1 in
    let refused = c.in_err-decimals.ensures in
    rw (given.1, given.2, refused.0) (read-decimals width c.args.decimals c.args.chars.now refused.1)

pub returns-then-chars-gt-WIDTH : goal.returns-then-chars-gt-WIDTH
returns-then-chars-gt-WIDTH c =
    read-long width c.args.decimals c.args.chars.now (omega arith) c.if-chars-gt-WIDTH.true

pub returns : goal.returns
returns c =
    let s = c.args in
    let chars = s.chars.now in
    let said : Bool × Bor (List ℕ) → Result ℤ Refusal = λ p. of_unsigned p.0 s.decimals p.1.now in
    let unsigned = rw c.in_ok-decimals.ensures at c.of_unsigned.ensures in
    read-text width s.decimals chars (omega arith) c.if-chars-gt-WIDTH.false
    (elim c.if-chars-lt1.branch [
      | in-45 w ↦
          let minus : get_or chars 0 0 ≡ minus_sign = search rules in
          unsigned ∙ ap said w.minus-is ∙ ap (of_unsigned true s.decimals) (part_to_end chars 1) ∙ with-minus s.decimals chars minus
      | in_default w ↦
          let other : get_or chars 0 0 ≡ minus_sign → ⊥ = search rules in
          unsigned ∙ ap said w.minus-is ∙ without-minus s.decimals chars other
    ])
