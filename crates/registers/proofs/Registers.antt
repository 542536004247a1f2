-- Two's complement in 16 bits: the two ways are inverse.
-- Assumes nothing.
use mathlib.Core.Path.{◌≡◌}
use Prim.Native.Nat.{ℕ, ◌<◌}
use native.Mathlib.Omega.{arith}
use lib.IntN.{ℤ}
use lib.Signed.{mag}
use Rattle.std.proofs.lemmas.Bool.Decides.{nat_tests}
use Rattle.registers.specs.Register.{to_register, of_register}

-- a register that holds a value of 16 bits gives that value back
pub of-to : (v : ℤ) → mag v < 0x8000 → of_register (to_register v) ≡ v
of-to v h = grind (arith, nat_tests)

-- and a value that stands for a register makes that register
pub to-of : (w : ℕ) → w < 0x10000 → to_register (of_register w) ≡ w
to-of w h = grind (arith, nat_tests)
