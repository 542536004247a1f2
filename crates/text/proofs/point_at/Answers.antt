-- Before the first point stand as many characters as before the first that is one.
use Rattle.std.proofs.Common.{rules, ◌≡◌, refl, sym, ◌∙◌}
use Rattle.std.proofs.lemmas.Iterator.{IsFirst-from_position, YieldsList-from_slice, index_from_first}
use borrow.Author.Tests.{tests}
use Rattle.text.specs.Characters.{point}
use Rattle.text.specs.Reading.{point_at}
use Rattle.text.proofs.Steps.{point-here, point-later}
use Rattle.text.proofs.point_at.Goals as goal

pub returns : goal.returns
returns c =
    let chars = c.args.chars.now in
    let first = IsFirst-from_position _ _ c.position.result (λ x. x ≡ point) (λ x. x ≡ point → ⊥) c.position.ensures.ran
    (YieldsList-from_slice chars cc) (λ x q k. search (rules, tests)) (λ x q k. search (rules, tests)) in
    c.unwrap_or.ensures
    ∙ sym (index_from_first point_at (λ x. x ≡ point) (λ x. x ≡ point → ⊥) refl point-here point-later chars c.position.result first)
