-- `items::in_range`: the machine's comparisons with the two limits are those of the whole numbers.
use Rattle.std.proofs.Common.{◌≡◌, ◌∙◌, ap, arith, w32, to_z, of_z}
use Rattle.sign.proofs.Laws.{same}
use Rattle.items.specs.declared.Item as declared
use Rattle.items.specs.ItemList.{item_at, in_range}
use Rattle.items.proofs.in_range.Goals as goal

pub returns-then-item-value : goal.returns-then-item-value
unfolding in_range
returns-then-item-value c =
    let x = c.item_at-item in
    let v = same c.args.value c.ranges.value.sfits in
    let low : to_z w32 (of_z w32 x.result.low) ≡ (item_at c.args.i).low = same x.result.low (omega arith) ∙ ap (λ (r : declared.Item). r.low) x.ensures in
    let high : to_z w32 (of_z w32 x.result.high) ≡ (item_at c.args.i).high = same x.result.high (omega arith) ∙ ap (λ (r : declared.Item). r.high) x.ensures in
    simp (v, high, simp (v, low) at c.if-item-value.true)

pub returns-else-item-value : goal.returns-else-item-value
unfolding in_range
returns-else-item-value c =
    let x = c.item_at-item in
    let v = same c.args.value c.ranges.value.sfits in
    let low : to_z w32 (of_z w32 x.result.low) ≡ (item_at c.args.i).low = same x.result.low (omega arith) ∙ ap (λ (r : declared.Item). r.low) x.ensures in
    simp (v, low, simp (v, low) at c.if-item-value.false)
