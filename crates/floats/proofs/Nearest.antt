-- The float that a fraction of whole numbers is rounded to is the nearest one, and of two equally near the even one.
-- Assumes nothing.
use mathlib.Core.Path.{◌≡◌, refl, sym, ap, subst⁻¹, ◌∙◌}
use mathlib.Core.Logic.{◌≢◌}
use mathlib.Core.Bool.{Bool, true, false, beq, cond, true≢false}
use Prim.Native.Nat.{ℕ, ◌+◌, ◌-◌, ◌*◌, ◌%◌, ◌^◌, ◌≤◌, ◌<◌}
use native.Mathlib.Nat.{le_of_eq, le_trans, le_antisymm, mul-pos, mul-lt-mul_of_pos_right, one-le-pow}
use native.Mathlib.Decide.{dec_le, ℕ_discrete}
use native.Mathlib.Omega.{arith}
use lib.Pow.{pow_pos}
use lib.Ieee.{binary32, round, to_bits}
use lib.Ieee.Order.{drop, kept}
use lib.IntN.{ℤ, pos, nat_abs}
use lib.Signed.{lt_z}
use Rattle.floats.specs.Quotient.{exact, float_bits}
use Rattle.floats.specs.Nearest.{is_minus, is_number, size_of, apart, Nearest}
use Rattle.floats.proofs.Quotient.{is-exact, exact-rounds, exact-bits}
use Rattle.floats.proofs.Closest.{gap, none-nearer, odd-alone}
use Rattle.floats.proofs.Patterns.{Written, written, moved, fewer-places, same_float, even-float}
use Rattle.floats.proofs.Rounded.{Rounded, rounded, few-digits, reached}

-- what holds of the one number where two signs are the same, and of the other where they are not, holds of the one that they pick
by-signs : (P : ℕ → Type 0) (s t : Bool) {x y : ℕ} → (s ≡ t → P x) → (s ≢ t → P y) → P (cond (beq s t) x y)
by-signs P true true same other = same refl
by-signs P true false same other = other true≢false
by-signs P false true same other = other (λ e. true≢false (sym e))
by-signs P false false same other = same refl

-- ---- how far a float is from n / den, a count of smallest floats, times den

abbrev far : Bool → ℕ → ℕ → ℕ → ℕ
far s n den p = apart (is_minus p) (size_of p * den) s n

-- the step, times den, to whose multiples n / den is rounded
abbrev step : ℕ → ℕ → ℕ
step n den = den * 2 ^ drop 24 n den

-- Some multiple of the step is no farther than a float p is. And where it is as far, and is the one that is rounded to, and odd, p is b.
record Behind (n den b p away : ℕ) : Type 0 where
  multiple : ℕ
  farther : gap (multiple * step n den) n ≤ away
  itself : away ≡ gap (multiple * step n den) n → multiple ≡ kept 24 n den → kept 24 n den % 2 ≡ 1 → p ≡ b

module _ {s : Bool} {n den b : ℕ} (above : 0 < den) (r : Rounded s n den b) where
  -- ---- each float is behind a multiple

  -- one of the other sign: behind zero
  across : (p : ℕ) → Behind n den b p (size_of p * den + n)
  across p = record { multiple = 0; farther = omega arith; itself = λ _ e odd. absurd (omega arith) }

  -- one with as many places or more: it is a multiple
  among : (p : ℕ) (w : Written p) → is_number p ≡ true → is_minus p ≡ s → drop 24 n den ≤ w.places
      → Behind n den b p (gap (size_of p * den) n)
  among p w is signs l =
      let k = drop 24 n den in
      let a = w.digits * 2 ^ (w.places - k) in
      let size : size_of p ≡ a * 2 ^ k = w.size ∙ sym (moved w.digits l) in
      record {
        multiple = a;
        farther = rw size (le_of_eq (ap (λ (x : ℕ). gap x n) (omega arith)));
        itself = λ _ e _. same_float p b is r.number (signs ∙ sym r.sign) (size ∙ ap (λ (x : ℕ). x * 2 ^ k) e ∙ sym r.size);
      }

  -- one with fewer places: behind the first multiple of 24 digits
  under : (p : ℕ) (w : Written p) → w.places < drop 24 n den → Behind n den b p (gap (size_of p * den) n)
  under p w l =
      let size : size_of p < 2 ^ 23 * 2 ^ drop 24 n den = rw w.size (fewer-places w.digits w.short l) in
      let less = mul-lt-mul_of_pos_right size above in
      let least = reached n den above (omega arith) in
      record { multiple = 2 ^ 23; farther = omega arith; itself = λ same _ _. absurd (omega arith) }

  -- one of either sign
  behind : (p : ℕ) → is_number p ≡ true → Behind n den b p (far s n den p)
  behind p is =
      let w = written p in
      by-signs (Behind n den b p) (is_minus p) s
      (λ signs. elim (dec_le (drop 24 n den) w.places) [ yes l ↦ among p w is signs l | no m ↦ under p w (omega arith) ])
      (λ _. across p)

  -- ---- and the float is before each multiple

  -- how far the float itself is
  own : far s n den b ≡ gap (kept 24 n den * step n den) n
  own =
      by-signs (λ (x : ℕ). x ≡ gap (kept 24 n den * step n den) n) (is_minus b) s
      (λ _. rw r.size (ap (λ (x : ℕ). gap x n) (omega arith))) (λ d. absurd (d r.sign))

  -- there is a step
  some : 0 < step n den
  some = mul-pos above (pow_pos (drop 24 n den))

  -- no multiple is nearer than the float
  before : (a : ℕ) → far s n den b ≤ gap (a * step n den) n
  before a = rw own (none-nearer n (step n den) some a)

  -- no float is nearer
  nearest-float : (p : ℕ) → is_number p ≡ true → far s n den b ≤ far s n den p
  nearest-float p is = let m = behind p is in le_trans (before m.multiple) m.farther

  -- where an odd multiple is rounded to, no other float is as near
  odd-float : kept 24 n den % 2 ≡ 1 → (p : ℕ) → is_number p ≡ true → far s n den p ≡ far s n den b → p ≡ b
  odd-float odd p is same =
      let m = behind p is in
      let tie : far s n den p ≡ gap (m.multiple * step n den) n = le_antisymm (rw same (before m.multiple)) m.farther in
      m.itself tie (odd-alone n (step n den) some m.multiple odd (sym tie ∙ same ∙ own)) odd

  -- where another is as near, the float is even
  even-of-two : (p : ℕ) → is_number p ≡ true → p ≢ b → far s n den p ≡ far s n den b → b % 2 ≡ 0
  even-of-two p is other same = elim (ℕ_discrete (kept 24 n den % 2) 0) [
    | yes e ↦ even-float b (kept 24 n den) (drop 24 n den) r.size (few-digits n den) e
    | no d ↦ absurd (other (odd-float (omega arith) p is same))
  ]

-- ---- the float of a whole number and its decimals

rounded-nearest : (v : ℤ) (d : ℕ) → nat_abs v ≤ 2 ^ 24
    → Nearest v d (to_bits binary32 (round binary32 (lt_z v (pos 0)) (nat_abs v) (10 ^ d)))
rounded-nearest v d small =
    let above : 0 < 10 ^ d = one-le-pow d 10 (omega arith) in
    let r = rounded (lt_z v (pos 0)) (nat_abs v) (10 ^ d) small in
    record { number = r.number; nearest = nearest-float above r; even = even-of-two above r }

pub exact-nearest : (v : ℤ) (d : ℕ) → exact v d ≡ true → Nearest v d (float_bits v d)
exact-nearest v d e =
    subst⁻¹ (Nearest v d) (exact-bits v d e ∙ ap (to_bits binary32) (exact-rounds v d e)) (rounded-nearest v d (is-exact v d e).0)
