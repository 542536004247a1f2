-- Laws of XU: how many decimals it gives.
-- Assumes nothing.
use mathlib.Core.Path.{◌≡◌, sym}
use mathlib.Core.Bool.{true}
use mathlib.Core.List.{List}
use Prim.Native.Nat.{ℕ, ◌≤◌}
use native.Mathlib.Omega.{arith}
use borrow.Author.Tests.{leb-true}
use lib.Dec.{T, leb}
use lib.IntN.{ℤ, pos, negsuc, nat_abs}
use lib.Signed.{non_neg}
use Rattle.numbers.proofs.Tests.{contrary, both, chosen}
use Rattle.items.specs.ItemList.{in_range}
use Rattle.table.specs.Table.{entry, XU, xu_of}

-- a value in XU's range is one of 0 to 3
pub in-xu : (v : ℤ) → in_range XU v ≡ true → T (non_neg v) × (nat_abs v ≤ 3)
unfolding in_range
in-xu (pos n) e = (tt, leb-true n 3 (both (leb 0 n) (leb n 3) e).1)
in-xu (negsuc n) e = contrary (sym e)

-- so in any table it gives three decimals at most
pub few-xu : (t : List ℤ) → xu_of t ≤ 3
unfolding xu_of
few-xu t = chosen (λ (k : ℕ). k ≤ 3) (in_range XU (entry t XU)) (λ e. (in-xu (entry t XU) e).1) (λ _. omega arith)
