-- Runs of bytes stored in a buffer: one behind another, in either order, and one over another at the front.
-- Assumes nothing.
use Rattle.std.proofs.Common.{◌≡◌, ℕ, suc, ◌+◌, ◌-◌, ◌<◌, ◌≤◌, List, [], ◌∷◌, ◌++◌, length, take, drop, set, sym, refl, ap, ◌∙◌, add-zero, arith, drop-drop}
use lib.Seq.{sets, set_comm, length-sets, drop-append-add, take-append_seam, take-set-le}
use Rattle.crc.proofs.Sealed.{front}

-- a store in front of a run may come before it or behind it
pub set-sets : (ys buffer : List ℕ) (at k x : ℕ) → at < k → set (sets buffer k ys) at x ≡ sets (set buffer at x) k ys
set-sets [] buffer at k x h = refl
set-sets (y ∷ ys) buffer at k x h =
    set-sets ys (set buffer k y) at (suc k) x (omega arith)
    ∙ ap (λ (b : List ℕ). sets b (suc k) ys) (set_comm buffer k at y x (λ e. omega arith))

-- two runs, one behind the other, are one
pub sets-append : (xs ys buffer : List ℕ) (at : ℕ) → sets buffer at (xs ++ ys) ≡ sets (sets buffer at xs) (at + length xs) ys
sets-append [] ys buffer at = ap (λ (k : ℕ). sets buffer k ys) (sym (add-zero at))
sets-append (x ∷ xs) ys buffer at =
    sets-append xs ys (set buffer at x) (suc at)
    ∙ ap (λ (k : ℕ). sets (sets (set buffer at x) (suc at) xs) k ys) (omega arith)

-- and the one behind may be stored first
pub sets-back-first : (xs ys buffer : List ℕ) (at : ℕ)
    → sets buffer at (xs ++ ys) ≡ sets (sets buffer (at + length xs) ys) at xs
sets-back-first [] ys buffer at = ap (λ (k : ℕ). sets buffer k ys) (sym (add-zero at))
sets-back-first (x ∷ xs) ys buffer at =
    sets-back-first xs ys (set buffer at x) (suc at)
    ∙ ap (λ (k : ℕ). sets (sets (set buffer at x) k ys) (suc at) xs) (omega arith)
    ∙ ap (λ (b : List ℕ). sets b (suc at) xs) (sym (set-sets ys buffer at (at + suc (length xs)) x (omega arith)))

-- a run leaves what stands in front of it
pub take-sets : (ys buffer : List ℕ) (n at : ℕ) → n ≤ at → take n (sets buffer at ys) ≡ take n buffer
take-sets [] buffer n at h = refl
take-sets (y ∷ ys) buffer n at h = take-sets ys (set buffer at y) n (suc at) (omega arith) ∙ take-set-le n buffer at y h

-- a run of no length stores nothing
pub sets-none : (ys buffer : List ℕ) (at : ℕ) → length ys ≡ 0 → sets buffer at ys ≡ buffer
sets-none [] buffer at e = refl
sets-none (y ∷ ys) buffer at e = absurd (omega arith)

module _ (buffer xs : List ℕ) (fits : length xs ≤ length buffer) where
  -- what was stored at the front is read there
  pub front_read : take (length xs) (sets buffer 0 xs) ≡ xs
  front_read = ap (take (length xs)) (front buffer xs fits) ∙ take-append_seam xs (drop (length xs) buffer)

  -- a run at the front that is no shorter than another leaves nothing of it
  pub sets_over : (ys : List ℕ) → length xs ≤ length ys → length ys ≤ length buffer → sets (sets buffer 0 xs) 0 ys ≡ sets buffer 0 ys
  sets_over ys longer room =
      let more = length ys - length xs in
      let long : length ys ≡ length xs + more = omega arith in
      let rest : drop (length ys) (sets buffer 0 xs) ≡ drop (length ys) buffer =
      ap (drop (length ys)) (front buffer xs fits)
      ∙ ap (λ (k : ℕ). drop k (xs ++ drop (length xs) buffer)) long
      ∙ drop-append-add xs (drop (length xs) buffer) more
      ∙ drop-drop more (length xs) buffer
      ∙ ap (λ (k : ℕ). drop k buffer) (sym long) in
      front (sets buffer 0 xs) ys (omega (arith, length-sets buffer 0 xs)) ∙ ap (λ (r : List ℕ). ys ++ r) rest
      ∙ sym (front buffer ys room)
