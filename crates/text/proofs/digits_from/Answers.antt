-- A digit is taken in while the number has fewer than `width` of them, and those left still decide.
use Rattle.std.proofs.Common.{◌≡◌, ◌+◌, ◌-◌, length, get_or, true, sym, ◌∙◌, add-one, arith}
use native.Mathlib.Nat.{add-suc}
use Rattle.text.specs.Characters.{zero_digit, is_digit}
use Rattle.text.specs.Numbers.{width}
use Rattle.text.proofs.Numerals.{at_most, digit-range, one_more}
use Rattle.text.proofs.Steps.{digit-here}
use Rattle.text.proofs.digits_from.Goals as goal

pub overflow_mul-n : goal.overflow_mul-n
overflow_mul-n c =
    let l = c.loop-c in
    let room = width - length c.args.chars.now in
    let small = at_most l.n (room + l.c-index) (width - 1) l.invariant.0 (omega (arith, c.requires.0)) in
    omega arith

pub overflow_add-n : goal.overflow_add-n
overflow_add-n c =
    let l = c.loop-c in
    let room = width - length c.args.chars.now in
    let small = at_most l.n (room + l.c-index) (width - 1) l.invariant.0 (omega (arith, c.requires.0)) in
    let range = digit-range (get_or c.args.chars.now l.c-index 0) (sym c.is_ascii_digit.ensures.value ∙ c.if-not-is_ascii_digit.false) in
    omega arith

pub loop-c-preserved : goal.loop-c-preserved
loop-c-preserved c =
    let l = c.loop-c in
    let chars = c.args.chars.now in
    let room = width - length chars in
    let next = get_or chars l.c-index 0 in
    let digit : is_digit next ≡ true = sym c.is_ascii_digit.ensures.value ∙ c.if-not-is_ascii_digit.false in
    let range = digit-range next digit in
    rw (add-one l.c-index, add-suc room l.c-index, c.from.ensures) (
      one_more l.n (room + l.c-index) (next - zero_digit) l.invariant.0 (omega arith),
      sym (digit-here chars l.c-index c.loop-c-test.true l.n digit) ∙ l.invariant.1,
    )
