-- Storing a run of registers, by those that are left.
-- Assumes nothing.
use mathlib.Core.Path.{◌≡◌, refl, sym, ap, ◌∙◌}
use mathlib.Core.List.{List, [], ◌∷◌, ◌++◌}
use Prim.Native.Nat.{ℕ, zero, suc, ◌+◌, ◌-◌, ◌*◌, ◌/◌, ◌%◌, ◌<◌, ◌≤◌}
use native.Mathlib.Nat.{not-suc-le-zero}
use native.Mathlib.Numerals.{add-one}
use native.Mathlib.Omega.{arith}
use Rattle.std.proofs.lemmas.Grind.{common_steps}
use Rattle.std.proofs.lemmas.List.Edits.{sets-eq}
use lib.IntN.{ℤ}
use lib.ListN.{length, drop, set, length-set}
use lib.Seq.{sets, set-append_left}
use Rattle.registers.specs.Register.{register_at, registers_from}

-- a register is sent as two bytes
pub length-registers : (t : List ℤ) (r n : ℕ) → length (registers_from t r n) ≡ 2 * n
length-registers t r zero = refl
length-registers t r (suc n) = let rest = length-registers t (suc r) n in omega arith

-- the registers that are left, from place `at` of the buffer on
abbrev pub registers_left : List ℤ → List ℕ → ℕ → ℕ → ℕ → List ℕ
registers_left t buffer at r n = sets buffer at (registers_from t r n)

one-register : (t : List ℤ) (buffer : List ℕ) (at r n w : ℕ) → 0 < n → w ≡ register_at t r
    → registers_left t buffer at r n ≡ registers_left t (set (set buffer at (w / 256)) (at + 1) (w % 256)) (at + 2) (r + 1) (n - 1)
one-register t buffer at r zero w h e = absurd (not-suc-le-zero h)
one-register t buffer at r (suc n) w h e =
    let two : at + 2 ≡ suc (suc at) = omega arith in
    let less : suc n - 1 ≡ n = omega arith in
    rw (e, add-one at, two, add-one r, less)

module _ (t : List ℤ) (buffer : List ℕ) (start quantity i : ℕ) where
  pub registers-turn : (w : ℕ) → i < quantity → w ≡ register_at t (start + i)
      → registers_left t (set (set buffer (3 + 2 * i) (w / 256)) (3 + 2 * i + 1) (w % 256)) (3 + 2 * (i + 1)) (start + (i + 1)) (quantity - (i + 1))
      ≡ registers_left t buffer (3 + 2 * i) (start + i) (quantity - i)
  registers-turn w h e =
      let at : 3 + 2 * (i + 1) ≡ 3 + 2 * i + 2 = omega arith in
      let next : start + (i + 1) ≡ start + i + 1 = omega arith in
      let left : quantity - (i + 1) ≡ quantity - i - 1 = omega arith in
      rw (at, next, left) (sym (one-register t buffer (3 + 2 * i) (start + i) (quantity - i) w (omega arith) e))

-- a run that fits in the front of a list leaves what stands behind the front
pub sets-front : (xs ys : List ℕ) (i : ℕ) (vs : List ℕ) → i + length vs ≤ length xs → sets (xs ++ ys) i vs ≡ sets xs i vs ++ ys
sets-front xs ys i [] h = refl
sets-front xs ys i (v ∷ vs) h =
    ap (λ (l : List ℕ). sets l (suc i) vs) (set-append_left xs ys i v (omega arith))
    ∙ sets-front (set xs i v) ys (suc i) vs (simp length-set (omega arith))

-- a list that is stored at the front of another stands there, and the rest stays
pub stored-front : (bytes buffer : List ℕ) → length bytes ≤ length buffer → sets buffer 0 bytes ≡ bytes ++ drop (length bytes) buffer
stored-front bytes buffer h =
    let front : 0 + length bytes ≡ length bytes = omega arith in
    rw front at (sets-eq bytes buffer 0 (omega arith))

pub ruleset in_front = (stored-front, common_steps)
