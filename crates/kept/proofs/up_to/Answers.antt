-- From eight on all is kept, below that what is left of the number.
use Rattle.std.proofs.Common.{rules, arith, ℕ, ◌≡◌, ◌≤◌, length, get_or, sym, ◌∙◌, Fits, w8, w64}
use Rattle.std.specs.Int.{to_le_bytes}
use native.Mathlib.Nat.{one-le-pow, div-div-eq-div-mul}
use Rattle.kept.specs.Bytes.{low_first}
use Rattle.kept.proofs.Cut.{up-to-all, low-up-to}
use Rattle.kept.proofs.up_to.Goals as goal

pub returns-then-count-ge-PLACES : goal.returns-then-count-ge-PLACES
returns-then-count-ge-PLACES c =
    let kept = c.args.kept in
    let eight : length kept ≡ 8 = search rules in
    let past : length kept ≤ c.args.count = omega arith in
    sym (up-to-all c.args.count kept past)

pub nonzero_rem-number_of : goal.nonzero_rem-number_of
nonzero_rem-number_of c = rw c.past_bytes.ensures (one-le-pow _ 256 (omega arith))

bytes-of : (n : ℕ) → to_le_bytes w64 n ≡ low_first 8 n
bytes-of n = simp div-div-eq-div-mul

pub returns : goal.returns
returns c =
    let kept = c.args.kept in
    let eight : length kept ≡ 8 = search rules in
    let bytes : (i : ℕ) → Fits w8 (get_or kept i 0) = λ i. search rules in
    c.to_le_bytes.ensures ∙ bytes-of _
    ∙ rw (c.past_bytes.ensures, c.number_of.ensures) (rw eight at (low-up-to c.args.count kept (λ i. (bytes i).fits)))
