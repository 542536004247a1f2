-- What the calls tell of sign, size and limit makes the definition's tests come out as the code's did.
use Rattle.std.proofs.Common.{arith, sym, ap, ◌∙◌}
use borrow.Author.Tests.{lt-ltb, le-ltb}
use lib.IntN.{nat_abs}
use Rattle.sign.proofs.Laws.{same, size_of}
use Rattle.text.specs.Numbers.{width}
use Rattle.text.specs.Writing.{accepted, fits, text}
use Rattle.text.proofs.Texts.{fitting, not-fitting}
use Rattle.text.proofs.write.Goals as goal

pub returns-then-size-limit : goal.returns-then-size-limit
unfolding fits
returns-then-size-limit c =
    let s = c.args in
    let minus = rw (same s.value c.ranges.value.sfits) at c.less-minus.ensures in
    let size = size_of s.value c.ranges.value.sfits c.size-size.ensures in
    let unfit = le-ltb (nat_abs s.value) _ (rw (size, c.limit.ensures, minus, c.in_ok-checked.ensures) at c.if-size-limit.true) in
    sym (not-fitting width s.decimals s.value (omega arith) unfit)

pub returns : goal.returns
unfolding fits text
returns c =
    let s = c.args in
    let minus = rw (same s.value c.ranges.value.sfits) at c.less-minus.ensures in
    let size = size_of s.value c.ranges.value.sfits c.size-size.ensures in
    let fit = lt-ltb (nat_abs s.value) _ (rw (size, c.limit.ensures, minus, c.in_ok-checked.ensures) at c.if-size-limit.false) in
    ap accepted (c.layout.ensures ∙ rw (minus, size, c.in_ok-checked.ensures)) ∙ sym (fitting width s.decimals s.value (omega arith) fit)
