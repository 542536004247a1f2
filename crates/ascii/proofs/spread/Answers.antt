-- The byte at a place is spread before those in front of it.
use Rattle.std.proofs.Common.{◌≡◌, ℕ, suc, ◌+◌, ◌-◌, ◌*◌, ◌<◌, List, [], ◌∷◌, length, get_or, take, sym, ap, ◌∙◌, arith, length-take-le, take-suc}
use Rattle.std.proofs.lemmas.List.Edits.{sets}
use Rattle.ascii.specs.Hexadecimal.{hex_of}
use Rattle.ascii.proofs.Hexadecimal.{hex-length, hex-append}
use Rattle.ascii.proofs.Stores.{sets-back-first, take-sets}
use Rattle.ascii.proofs.spread.Goals as goal

spread-turn : (buffer : List ℕ) (j : ℕ) → j < length buffer →
    let next = sets buffer (2 * j + 1) (hex_of (get_or buffer j 0 ∷ [])) in
    sets next 1 (hex_of (take j next)) ≡ sets buffer 1 (hex_of (take (suc j) buffer))
spread-turn buffer j inside =
    let front = take j buffer in
    let last = hex_of (get_or buffer j 0 ∷ []) in
    let next = sets buffer (2 * j + 1) last in
    let behind : 1 + length (hex_of front) ≡ 2 * j + 1 = omega (arith, hex-length front, length-take-le j buffer (omega arith)) in
    ap (λ (xs : List ℕ). sets next 1 (hex_of xs)) (take-sets last buffer j (2 * j + 1) (omega arith))
    ∙ ap (λ (k : ℕ). sets (sets buffer k last) 1 (hex_of front)) (sym behind)
    ∙ sym (sets-back-first (hex_of front) last buffer 1)
    ∙ ap (sets buffer 1) (sym (hex-append front (get_or buffer j 0 ∷ [])))
    ∙ ap (λ (xs : List ℕ). sets buffer 1 (hex_of xs)) (sym (take-suc buffer j 0 inside))

pub loop-i-preserved : goal.loop-i-preserved
loop-i-preserved c =
    let buffer = c.loop-i.buffer in
    let j = c.loop-i.i - 1 in
    let inside : j < length buffer = omega (arith, c.requires) in
    let back : suc j ≡ c.loop-i.i = omega arith in
    record {
      within = omega arith;
      left =
          ap (λ (next : List ℕ). sets next 1 (hex_of (take j next))) c.put_hex.ensures ∙ spread-turn buffer j inside
          ∙ ap (λ (k : ℕ). sets buffer 1 (hex_of (take k buffer))) back
          ∙ c.loop-i.invariant.left;
    }

pub returns : goal.returns
unfolding hex_of
returns c =
    let none : c.loop-i.i ≡ 0 = omega arith in
    sym (ap (λ (k : ℕ). sets c.loop-i.buffer 1 (hex_of (take k c.loop-i.buffer))) none) ∙ c.loop-i.invariant.left
