-- The two runs of digits are one number of at most `width` digits, so its product and its quotient are those of the definition.
use Rattle.std.proofs.Common.{rules, ◌≡◌, ℕ, ◌+◌, ◌-◌, ◌*◌, ◌/◌, ◌^◌, ◌<◌, ◌≤◌, List, length, ap, ◌∙◌, arith, Some, Ok}
use native.Mathlib.Nat.{one-le-pow, pow-le-pow_right}
use Rattle.sign.proofs.Laws.{make-of, same}
use Rattle.text.specs.Numbers.{width}
use Rattle.text.specs.Reading.{digits_from}
use Rattle.text.proofs.Numerals.{at_most}
use Rattle.text.proofs.Steps.{digits-say, found_below, number_small, scaled, sized}
use Rattle.text.proofs.of_parts.Goals as goal
use Rattle.text.proofs.of_parts.Goals.{else-is_empty-via-then-is_empty+else-is_empty-2, else-is_empty-via-else-is_empty}

pub digits_from-requires : goal.digits_from-requires
digits_from-requires c = (omega (arith, c.requires), one-le-pow (width - length c.args.whole.now) 10 (omega arith))

pub digits_from-requires-2 : goal.digits_from-requires-2
digits_from-requires-2 c =
    let s = c.args in
    let front : digits_from 0 s.whole.now ≡ Some c.in_ok-front.front = grind arith in
    let small = found_below 0 0 s.whole.now c.in_ok-front.front (omega arith) front in
    let few = c.requires in
    (omega arith, at_most c.in_ok-front.front (0 + length s.whole.now) (width - length s.fraction.now) small (omega arith))

-- all digits are at most `width`
below : (whole fraction : List ℕ) (front n : ℕ) → length whole + length fraction ≤ width → digits_from 0 whole ≡ Some front
    → digits_from front fraction ≡ Some n → n < 10 ^ width
below whole fraction front n few f a = at_most n (length whole + length fraction) width (number_small whole fraction front n f a) few

pub overflow_mul-size : goal.overflow_mul-size
overflow_mul-size c =
    let s = c.args in
    let front : digits_from 0 s.whole.now ≡ Some c.in_ok-front.front = grind arith in
    let n : digits_from c.in_ok-front.front s.fraction.now ≡ Some c.in_ok-n.n = grind arith in
    let small = below s.whole.now s.fraction.now c.in_ok-front.front c.in_ok-n.n c.requires front n in
    rw c.power.ensures (omega (arith, scaled width c.in_ok-n.n s.decimals.count small s.decimals.few))

pub cut_off-requires : goal.cut_off-requires
cut_off-requires c =
    let s = c.args in
    let front : digits_from 0 s.whole.now ≡ Some c.in_ok-front.front = grind arith in
    let n : digits_from c.in_ok-front.front s.fraction.now ≡ Some c.in_ok-n.n = grind arith in
    let small = below s.whole.now s.fraction.now c.in_ok-front.front c.in_ok-n.n c.requires front n in
    let places = length s.fraction.now in
    let most : places ≤ width = omega (arith, c.requires) in
    rw (c.power.ensures, c.power-2.ensures) (
      scaled width c.in_ok-n.n s.decimals.count small s.decimals.few,
      one-le-pow places 10 (omega arith),
      pow-le-pow_right {n = 10} (omega arith) most,
    )

pub returns : goal.returns
returns c =
    let s = c.args in
    let front : digits_from 0 s.whole.now ≡ Some c.in_ok-front.front = grind arith in
    let n : digits_from c.in_ok-front.front s.fraction.now ≡ Some c.in_ok-n.n = grind arith in
    let small = below s.whole.now s.fraction.now c.in_ok-front.front c.in_ok-n.n c.requires front n in
    let tens = 10 ^ length s.fraction.now in
    let size = sized width c.in_ok-n.n s.decimals.count tens small s.decimals.few in
    let cut = rw (c.power.ensures, c.power-2.ensures) at c.cut_off.ensures in
    let value = make-of s.minus (c.in_ok-n.n * 10 ^ s.decimals.count / tens) c.cut_off.result (omega arith) cut in
    ap Ok (same c.cut_off.result c.cut_off.type_inv ∙ value)
    ∙ digits-say s.minus s.decimals.count s.whole.now s.fraction.now c.in_ok-front.front c.in_ok-n.n front n
    (search rules)
