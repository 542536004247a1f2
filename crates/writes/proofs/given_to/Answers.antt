-- The writes are looked at from the back, and what the first for the item gives is given by all.
use Rattle.std.proofs.Common.{◌≡◌, sym, ap, ◌∙◌, arith, length, ◌/◌, ◌-◌, ◌+◌}
use Rattle.std.specs.Prelude.{Some, None}
use Rattle.sign.proofs.Laws.{same}
use Rattle.writes.proofs.Given.{GivenFrom, gives_none, gives-this, gives-on, value_stays}
use Rattle.writes.proofs.given_to.Goals as goal

pub loop-i-init : goal.loop-i-init
loop-i-init c = record {
  within = omega arith;
  given = gives_none c.args.start c.args.bytes.now c.args.item (length c.args.bytes.now / 2) (omega arith);
}

pub returns-then-item_behind-item : goal.returns-then-item_behind-item
returns-then-item_behind-item c =
    let value = c.value_behind in
    let one : c.loop-i.i - 1 + 1 ≡ c.loop-i.i = omega arith in
    let behind : GivenFrom c.args.start c.args.bytes.now c.args.item (c.loop-i.i - 1 + 1) None = rw one c.loop-i.invariant.given in
    ap Some (same value.result value.type_inv ∙ value.ensures)
    ∙ sym (value_stays c.args.start c.args.bytes.now c.args.item (c.loop-i.i - 1) (omega arith)
    (gives-this c.args.start c.args.bytes.now c.args.item (c.loop-i.i - 1) behind (omega arith)
    (sym c.item_behind.ensures ∙ c.if-item_behind-item.true)))

pub loop-i-preserved : goal.loop-i-preserved
loop-i-preserved c =
    let one : c.loop-i.i - 1 + 1 ≡ c.loop-i.i = omega arith in
    let behind : GivenFrom c.args.start c.args.bytes.now c.args.item (c.loop-i.i - 1 + 1) None = rw one c.loop-i.invariant.given in
    record {
      within = omega arith;
      given = gives-on c.args.start c.args.bytes.now c.args.item (c.loop-i.i - 1) behind (omega arith)
          (λ e. c.if-item_behind-item.false (c.item_behind.ensures ∙ e));
    }
