-- The part before the point and the one after it are the definition's, and where there is no point nothing stands after it.
use Rattle.std.proofs.Common.{◌≡◌, ◌≤◌, ◌<◌, ◌+◌, ◌-◌, ℕ, List, [], Bor, Option, Some, None, length, take, drop, refl, sym, ap, ◌∙◌, add-one, arith}
use Rattle.std.specs.Option.{MatchOption, unwrap_or}
use borrow.Author.Rules.{part_to_end}
use mathlib.Core.Logic.{◌⊎◌, inl, inr}
use lib.ListN.{drop_of_length-le}
use lib.Seq.{length-take-le}
use Rattle.text.proofs.Steps.{point-within}
use Rattle.text.proofs.of_unsigned.Goals as goal

pub overflow_add-point : goal.overflow_add-point
overflow_add-point c = let within = point-within c.args.chars.now in rw c.point_at-point.ensures (omega (arith, c.requires))

pub slice_bounds-of_parts-end : goal.slice_bounds-of_parts-end
slice_bounds-of_parts-end c =
    let chars = c.args.chars.now in
    let within : c.point_at-point.result ≤ length chars = rw c.point_at-point.ensures (point-within chars) in
    sym (length-take-le c.point_at-point.result chars within)

-- what stands from a place on, or nothing where the text ends before that place
from_place : (cs : List ℕ) (n : ℕ) (part : Option (Bor (List ℕ))) (other : Bor (List ℕ)) → other.now ≡ []
    → MatchOption part ((length cs < n) ⊎ (length cs < length cs))
    (λ x. (n ≤ length cs) × (length cs ≤ length cs) × (x.now ≡ take (length cs - n) (drop n cs)) × (length x.now + n ≡ length cs))
    → (unwrap_or part other).now ≡ drop n cs
from_place cs n None other e (inl h) = e ∙ sym (drop_of_length-le cs (omega arith))
from_place cs n None other e (inr h) = absurd (omega arith)
from_place cs n (Some x) other e p = p.2 ∙ part_to_end cs n

pub returns : goal.returns
returns c =
    let chars = c.args.chars.now in
    let point = c.point_at-point.result in
    let fraction = ap (λ (p : Bor (List ℕ)). p.now) c.unwrap_or-fraction.ensures ∙ from_place chars (point + 1) c.get.result _ refl c.get.ensures.lookup.0 in
    c.of_parts.ensures ∙ rw (fraction, add-one point, c.point_at-point.ensures)
