-- A number rounded to a multiple of a step: no multiple lies nearer, and of two that are equally near it is the even one.
-- Assumes nothing.
use mathlib.Core.Path.{◌≡◌, refl, ap}
use mathlib.Core.Logic.{◌≢◌}
use Prim.Native.Nat.{ℕ, zero, suc, ◌+◌, ◌-◌, ◌*◌, ◌/◌, ◌%◌, ◌≤◌, ◌<◌, compare, Ordering}
use native.Mathlib.Nat.{le_refl, mul-le-mul_right, mod-lt, div-add-mod'}
use native.Mathlib.Decide.{dec_lt, ℕ_discrete}
use native.Mathlib.Omega.{arith}
use borrow.Author.Tests.{leb-true, leb-false, eqb-true, eqb-false}
use lib.Dec.{is_le, compare_is_eq}
use lib.Ieee.{nearest}
use lib.Ieee.Nearest.{closest}

-- how far apart two numbers are
abbrev pub gap : ℕ → ℕ → ℕ
gap m n = (m - n) + (n - m)

-- c steps come within half a step of the number, and nearer than that where c is odd
record Within (n u c : ℕ) : Type 0 where
  half : gap (c * u) n * 2 ≤ u
  less : c % 2 ≡ 1 → gap (c * u) n * 2 < u

module _ (n u : ℕ) where
  -- ---- the number is q steps and a rest

  -- a rest of half a step: the even one of q and the next is taken
  at-half : (q r e : ℕ) → q * u + r ≡ n → r * 2 ≡ u → q % 2 ≡ e → Within n u (q + e)
  at-half q r zero whole h even = omega arith
  at-half q r (suc zero) whole h odd = omega arith
  at-half q r (suc (suc e)) whole h neither = absurd (omega arith)

  -- any rest: it is rounded by how twice the rest compares with a step
  by-rest : (q r : ℕ) (o : Ordering) → compare (r * 2) u ≡ o → q * u + r ≡ n → r < u → Within n u (nearest q o)
  by-rest q r Ordering.lt e whole l = omega (arith, leb-true (r * 2) u (ap is_le e), eqb-false (r * 2) u (ap compare_is_eq e))
  by-rest q r Ordering.eq e whole l = at-half q r (q % 2) whole (eqb-true (r * 2) u (ap compare_is_eq e)) refl
  by-rest q r Ordering.gt e whole l = omega (arith, leb-false (r * 2) u (ap is_le e))

  -- so it is rounded to a multiple that is within half a step
  within : 0 < u → Within n u (closest n u)
  within some = by-rest (n / u) (n % u) (compare (n % u * 2) u) refl (div-add-mod' n u) (mod-lt n some)

  -- ---- two multiples

  -- they lie a step apart at least, so how far they are from the number adds up to as much: of the smaller and the larger, and of any two
  of-order : (a c : ℕ) → a < c → u ≤ gap (a * u) n + gap (c * u) n
  of-order a c l = omega (arith, mul-le-mul_right u l)

  of_two : (a c : ℕ) → a ≢ c → u ≤ gap (a * u) n + gap (c * u) n
  of_two a c d = elim (dec_lt a c) [ yes l ↦ of-order a c l | no m ↦ omega (arith, of-order c a (omega arith)) ]

  -- no multiple lies nearer than the one that is rounded to
  pub none-nearer : 0 < u → (a : ℕ) → gap (closest n u * u) n ≤ gap (a * u) n
  none-nearer some a = elim (ℕ_discrete a (closest n u)) [
    | yes e ↦ rw e (le_refl _)
    | no d ↦ omega (arith, (within some).half, of_two a (closest n u) d)
  ]

  -- where that is odd, no other is as near
  pub odd-alone : 0 < u → (a : ℕ) → closest n u % 2 ≡ 1 → gap (a * u) n ≡ gap (closest n u * u) n → a ≡ closest n u
  odd-alone some a odd same = elim (ℕ_discrete a (closest n u)) [
    | yes e ↦ e
    | no d ↦ absurd (omega (arith, (within some).less odd, of_two a (closest n u) d))
  ]
