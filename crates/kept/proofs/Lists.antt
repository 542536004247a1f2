-- A list by its elements, of any number of them.
-- Assumes nothing.
use mathlib.Core.Path.{◌≡◌, sym, ap, ◌∙◌}
use mathlib.Core.List.{List, [], ◌∷◌}
use Prim.Native.Nat.{ℕ, zero, suc, ◌+◌}
use native.Mathlib.Omega.{arith}
use lib.ListN.{length, get_or, drop, drop_of_length-le}
use lib.Seq.{drop-cons}

abbrev pub listed-from : List ℕ → ℕ → ℕ → List ℕ
listed-from l i zero = []
listed-from l i (suc n) = get_or l i 0 ∷ listed-from l (suc i) n

by-elements : (l : List ℕ) (i n : ℕ) → i + n ≡ length l → listed-from l i n ≡ drop i l
by-elements l i zero e = sym (drop_of_length-le l {i = i} (omega arith))
by-elements l i (suc n) e =
    ap (λ (r : List ℕ). get_or l i 0 ∷ r) (by-elements l (suc i) n (omega arith)) ∙ sym (drop-cons l i 0 (omega arith))

pub elements : (l : List ℕ) (n : ℕ) → length l ≡ n → listed-from l 0 n ≡ l
elements l n e = by-elements l 0 n (omega arith)
