-- The examples are worked out by the checker.
-- Assumes nothing.
use mathlib.Core.Path.{◌≡◌, refl}
use Prim.Native.Nat.{ℕ, zero, suc}
use native.Mathlib.Omega.{arith}
use borrow.Author.Tests.{lt-leb}
use lib.Ieee.{round, size, units, odd, div, of_int, to_bits}
use lib.IntN.{pos}
use Rattle.floats.specs.Quotient.{most_decimals, quotient, float_bits, Examples}

plus-zero : (d : ℕ) → float_bits (pos 0) d ≡ 0
unfolding quotient float_bits div of_int round units odd size to_bits
plus-zero zero = refl
plus-zero (suc zero) = refl
plus-zero (suc (suc zero)) = refl
plus-zero (suc (suc (suc zero))) = refl
plus-zero (suc (suc (suc (suc d)))) = rw (lt-leb (suc (suc (suc (suc d)))) most_decimals (omega arith))

pub examples : Examples
unfolding quotient float_bits div of_int round units odd size to_bits
examples = record { measured = refl; tenth = refl; lowest = refl; offset = refl; plus_zero = plus-zero }
