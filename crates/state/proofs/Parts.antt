-- Laws on lists that the proofs of this crate share: a part by its elements, a run of stores after another, and a run that is
-- as long as the list.
-- Assumes nothing.
use mathlib.Core.Path.{◌≡◌, sym, ap, ◌∙◌}
use mathlib.Core.List.{List, [], ◌∷◌, ◌++◌, append-nil}
use Prim.Native.Nat.{ℕ, zero, suc, ◌+◌, ◌≤◌}
use native.Mathlib.Nat.{add-zero}
use native.Mathlib.Omega.{arith}
use lib.ListN.{length, get_or, set, drop_of_length-le}
use lib.Seq.{slice, slice_empty, slice-cons, sets, sets-eq}
use Rattle.kept.proofs.Lists.{listed-from}

-- n elements from a place on are that part of the list
pub part-elements : (l : List ℕ) (f n : ℕ) → f + n ≤ length l → listed-from l f n ≡ slice f (f + n) l
part-elements l f zero h = rw (add-zero) (sym (slice_empty f l))
part-elements l f (suc n) h =
    let e : suc f + n ≡ f + suc n = omega arith in
    rw (slice-cons f (f + suc n) l 0 (omega arith) h, ← e) (ap (λ (r : List ℕ). get_or l f 0 ∷ r) (part-elements l (suc f) n (omega arith)))

-- a run of stores goes on where another ends
pub sets-append : (vs ws l : List ℕ) (i j : ℕ) → i + length vs ≡ j → sets (sets l i vs) j ws ≡ sets l i (vs ++ ws)
sets-append [] ws l i j e = let e' : j ≡ i = omega arith in rw e'
sets-append (v ∷ vs) ws l i j e = sets-append vs ws (set l i v) (suc i) j (omega arith)

-- a run that is as long as the list replaces it
pub sets-all : (l vs : List ℕ) → length l ≡ length vs → sets l 0 vs ≡ vs
sets-all l vs e =
    sets-eq vs l 0 (omega arith) ∙ ap (λ (r : List ℕ). vs ++ r) (drop_of_length-le l {i = 0 + length vs} (omega arith)) ∙ append-nil vs
