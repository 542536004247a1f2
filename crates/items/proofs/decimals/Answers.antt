-- `items::decimals`: where the list leaves the decimals out, they are those that XU gives.
use Rattle.std.specs.Prelude.{◌≡◌, ℕ, Bool, true, false, cond, eqb, Some, None, unwrap_or}
use Rattle.std.proofs.Common.{refl, ap, ◌∙◌}
use Rattle.items.specs.declared.Item as declared
use Rattle.items.specs.ItemList.{item_at, by_xu, decimals_of}
use Rattle.items.specs.Rows.{fixed_decimals}
use Rattle.items.proofs.decimals.Goals as goal

given : (xu d : ℕ) → unwrap_or (fixed_decimals d) xu ≡ cond (eqb d by_xu) xu d
given xu d = by (eqb d by_xu)
  where
    by : (t : Bool) → unwrap_or (cond t None (Some d)) xu ≡ cond t xu d
    by true = refl
    by false = refl

pub returns : goal.returns
unfolding decimals_of
returns c =
    c.unwrap_or.ensures ∙ ap (λ (x : declared.Item). unwrap_or x.decimals c.args.xu) c.item_at.ensures ∙ given c.args.xu (item_at c.args.i).decimals
