-- The state's bytes: a state comes back whole from its own bytes, which are 24; and what the code reads and lays out.
-- Assumes nothing.
use mathlib.Core.Path.{◌≡◌, refl}
use mathlib.Core.Bool.{Bool, true, false}
use mathlib.Core.List.{List, [], ◌∷◌, ◌++◌}
use mathlib.Core.Logic.{◌⊎◌, inl, inr, ⊎_elim, ⊎_map}
use Prim.Native.Nat.{ℕ, zero, suc, ◌/◌, ◌≤◌, ◌<◌, ◌^◌}
use native.Mathlib.Nat.{pow-suc}
use native.Mathlib.Omega.{arith}
use borrow.Author.Tests.{eq-eqb, ne_eqb}
use lib.ListN.{length, get_or, take, set, length-append, length-set}
use lib.Seq.{slice, take_at, drop_at, take_all, get_or-set_other, take-set-le, take-set-lt, drop-set-lt}
use Rattle.std.specs.Int.{from_bool}
use Rattle.rkc.specs.declared.Link.{Link}
use Rattle.kept.specs.Bytes.{from_low, low_first}
use Rattle.rkc.specs.State.{in_phase}
use Rattle.state.specs.State.{state_bytes, is_marked, mark_byte, fields, unknown_phase, unpacked, packed, HoldsNothing}

-- the bytes past the kept characters
abbrev zeros : List ℕ
zeros = 0 ∷ 0 ∷ 0 ∷ 0 ∷ []

pub packed-length : (l : Link) → length l.kept ≡ 8 → length (packed l) ≡ state_bytes
unfolding packed
packed-length l eight = simp length-append (omega arith)

-- ---- there and back

mark-back : (m : Bool) → is_marked (mark_byte m) ≡ m
mark-back true = refl
mark-back false = refl

-- a number of k bytes comes back from them
number-back : (k n : ℕ) → n < 256 ^ k → from_low (low_first k n) ≡ n
number-back zero n h = omega arith
number-back (suc k) n h =
    let p = rw pow-suc at h in
    let q : n / 256 < 256 ^ k = omega arith in
    rw (number-back k (n / 256) q) (omega arith)

-- a state whose fields fit their types comes back from its bytes
pub unpacked-packed : (l : Link) → length l.kept ≡ 8 → l.time < 2 ^ 32 → unpacked (packed l) ≡ l
unfolding unpacked packed
unpacked-packed l eight small =
    simp (eq-eqb (length (packed l)) state_bytes (packed-length l eight), mark-back l.mark, take_at l.kept zeros 8 eight, number-back 4 l.time small)

-- ---- bytes that hold nothing

-- a part stays when a byte outside it changes
part-other : (s : List ℕ) (f t i b : ℕ) → f ≤ t → (i < f) ⊎ (t ≤ i) → slice f t (set s i b) ≡ slice f t s
part-other s f t i b k (inl h) = rw (take-set-lt t s i b (omega arith)) (drop-set-lt f (take t s) i b h)
part-other s f t i b k (inr h) = rw (take-set-le t s i b h)

-- they are ignored going in
pub ignored : (s : List ℕ) (i b : ℕ) → HoldsNothing i → unpacked (set s i b) ≡ unpacked s
unfolding unpacked
ignored s i b h =
    rw (length-set s i b, before 0 (omega arith), before 1 (omega arith), before 2 (omega arith), before 3 (omega arith), before 4 (omega arith), kept, time)
  where
    before : (j : ℕ) → j < 5 → get_or (set s i b) j 0 ≡ get_or s j 0
    before j small =
        get_or-set_other s i j b 0
        (λ e. let past : 4 < i = ⊎_elim (λ w. w.0) (λ w. omega arith) h in omega arith)

    kept : slice 12 20 (set s i b) ≡ slice 12 20 s
    kept = part-other s 12 20 i b (omega arith) (⊎_map (λ w. omega (arith, w.1)) (λ w. omega arith) h)

    time : slice 8 12 (set s i b) ≡ slice 8 12 s
    time = part-other s 8 12 i b (omega arith) (⊎_map (λ w. w.1) (λ w. omega arith) h)

-- they are 0 coming out
pub zero-out : (l : Link) → length l.kept ≡ 8 → (slice 5 8 (packed l) ≡ 0 ∷ 0 ∷ 0 ∷ []) × (slice 20 24 (packed l) ≡ zeros)
unfolding packed
zero-out l eight =
    (refl, rw (take_all 12 (l.kept ++ zeros) (simp length-append (omega arith))) (drop_at l.kept zeros 8 eight))

-- ---- what the code reads and lays out

pub other_length : (s : List ℕ) → (length s ≡ state_bytes → ⊥) → in_phase unknown_phase ≡ unpacked s
unfolding unpacked
other_length s n = simp (ne_eqb (length s) state_bytes n)

pub own-length : (s : List ℕ) → length s ≡ state_bytes → fields s ≡ unpacked s
unfolding unpacked
own-length s e = simp (eq-eqb (length s) state_bytes e)

-- a mark's byte is the mark as a number
pub marked : (m : Bool) → from_bool m ≡ mark_byte m
marked true = refl
marked false = refl
