-- `floats::bits` meets its contract: the machine's division of the two converted numbers is the quotient.
use Rattle.std.proofs.Common.{ℕ, ◌^◌, ℤ, pos, Bool, true, false, ◌≡◌, sym, ap, ◌∙◌}
use mathlib.Core.Path.{ap₂, subst⁻¹}
use mathlib.Core.Bool.{not}
use lib.Dec.{T}
use lib.Ieee.{Float, binary32, of_int, div, is_nan, to_bits}
use Rattle.sign.proofs.Laws.{read_back}
use Rattle.floats.specs.Quotient.{exact, quotient, float_bits}
use Rattle.floats.proofs.Quotient.{exact-number, exact-bits}
use Rattle.floats.proofs.bits.Goals as goal

-- the division of what the machine reads is that of the quotient
divides : (v r : ℤ) (d n : ℕ) → r ≡ v → n ≡ 10 ^ d
    → div binary32 (of_int binary32 r) (of_int binary32 (pos n)) ≡ quotient v d
unfolding quotient
divides v r d n e f = ap₂ (λ (z : ℤ) (m : ℕ). div binary32 (of_int binary32 z) (of_int binary32 (pos m))) e f

-- what the test tells of the number that the machine reads it tells of the number
tested : (v r : ℤ) (d : ℕ) (told is : Bool) → r ≡ v → told ≡ exact r d → told ≡ is → exact v d ≡ is
tested v r d told is e f g = sym (ap (λ (z : ℤ). exact z d) e) ∙ sym f ∙ g

pub float_to_bits-result : goal.float_to_bits-result
float_to_bits-result c =
    subst⁻¹ (λ (x : Float). T (not (is_nan x)))
    (divides c.args.value _ c.args.decimals c.power.result (read_back c.args.value c.ranges.value) c.power.ensures)
    (exact-number c.args.value c.args.decimals (tested c.args.value _ c.args.decimals _ true (read_back c.args.value c.ranges.value) c.exact.ensures c.if-exact.true))

pub returns-then-exact : goal.returns-then-exact
returns-then-exact c =
    ap (to_bits binary32)
    (divides c.args.value _ c.args.decimals c.power.result (read_back c.args.value c.ranges.value) c.power.ensures)
    ∙ sym (exact-bits c.args.value c.args.decimals (tested c.args.value _ c.args.decimals _ true (read_back c.args.value c.ranges.value) c.exact.ensures c.if-exact.true))

pub returns-else-exact : goal.returns-else-exact
unfolding float_bits
returns-else-exact c = rw (tested c.args.value _ c.args.decimals _ false (read_back c.args.value c.ranges.value) c.exact.ensures c.if-exact.false)
