-- The powers of ten as a list, which is how code has them.
-- Assumes nothing.
use mathlib.Core.Path.{◌≡◌, ap, ◌∙◌}
use mathlib.Core.List.{List, [], ◌∷◌}
use Prim.Native.Nat.{ℕ, zero, suc, ◌+◌, ◌^◌, ◌<◌}
use native.Mathlib.Omega.{arith}
use lib.ListN.{get_or}

-- n of them, from 10 ^ k on
abbrev pub powers : ℕ → ℕ → List ℕ
powers k zero = []
powers k (suc n) = 10 ^ k ∷ powers (suc k) n

power-behind : (k n i : ℕ) → i < n → get_or (powers k n) i 0 ≡ 10 ^ (k + i)
power-behind k zero i h = absurd (omega arith)
power-behind k (suc n) zero h = ap (λ (m : ℕ). 10 ^ m) (omega arith)
power-behind k (suc n) (suc i) h = power-behind (suc k) n i (omega arith) ∙ ap (λ (m : ℕ). 10 ^ m) (omega arith)

pub power_at : (n i : ℕ) → i < n → get_or (powers 0 n) i 0 ≡ 10 ^ i
power_at n i h = power-behind 0 n i h ∙ ap (λ (m : ℕ). 10 ^ m) (omega arith)
