-- What is sent keeps the line structure and is heard as the same character, and what is heard is a line error exactly where the
-- byte breaks the structure. Proved once for all structures: the top bit changes the number of ones by one, so where a
-- character alone has the wrong parity, the top bit mends it.
-- Assumes nothing.
use mathlib.Core.Path.{◌≡◌, refl, sym, ap, ◌∙◌}
use mathlib.Core.Bool.{Bool, true, false, cond, not, beq}
use Prim.Native.Nat.{ℕ, ◌+◌, ◌<◌, ◌%◌}
use native.Mathlib.Nat.{add_comm}
use native.Mathlib.Omega.{arith}
use borrow.Author.Tests.{le-leb, lt-leb, lt-ltb, ltb-true, ltb-false, eq-eqb, ne_eqb, eqb-true, eqb-false}
use lib.Count.{ones, ones_cat}
use lib.Dec.{ltb, eqb}
use Rattle.numbers.proofs.Tests.{contrary, chosen}
use Rattle.line.specs.Line.{top_bit, low_seven, parity, keeps, top_unless, heard, is_line_error, sent}
use Rattle.line.proofs.Laws.{low-seven-small}

one-one : ones 1 ≡ 1
unfolding ones
one-one = refl

top-bit-counts : (c : ℕ) → c < top_bit → ones (c + top_bit) ≡ ones c + 1
top-bit-counts c h =
    ap ones (add_comm c top_bit) ∙ ones_cat 7 1 c h ∙ ap (λ (n : ℕ). n + ones c) one-one ∙ add_comm 1 (ones c)

parity-small : (structure : ℕ) → parity structure < 2
parity-small structure = chosen (λ (n : ℕ). n < 2) (eqb structure 1) (λ _. omega arith) (λ _. omega arith)

-- one test of the number of ones serves both parities: it is even exactly where even is asked for
pub even-as-asked : (n : ℕ) (even : Bool) → beq (eqb (n % 2) 0) even ≡ eqb (n % 2) (cond even 0 1)
even-as-asked n = go (eqb (n % 2) 0) refl
  where
    go : (t : Bool) → eqb (n % 2) 0 ≡ t → (even : Bool) → beq t even ≡ eqb (n % 2) (cond even 0 1)
    go true e true = sym e
    go false e true = sym e
    go true e false = let z = eqb-true (n % 2) 0 e in sym (ne_eqb (n % 2) 1 (omega arith))
    go false e false = let z = eqb-false (n % 2) 0 e in sym (eq-eqb (n % 2) 1 (omega arith))

-- a character that alone breaks the structure keeps it with the top bit
mended : (structure c : ℕ) → c < top_bit → keeps structure c ≡ false → keeps structure (c + top_bit) ≡ true
unfolding keeps
mended structure c h broken = go (eqb structure 0) refl
  where
    go : (t : Bool) → eqb structure 0 ≡ t → keeps structure (c + top_bit) ≡ true
    go true z = contrary (sym (lt-ltb c top_bit h) ∙ simp z at broken)
    go false z =
        let wrong = eqb-false (ones c % 2) (parity structure) (simp z at broken) in
        let right : ones (c + top_bit) % 2 ≡ parity structure = omega (arith, top-bit-counts c h, parity-small structure) in
        simp (z, eq-eqb _ _ right)

-- what is sent keeps its structure
pub sent-keeps : (structure c : ℕ) → keeps structure (sent structure c) ≡ true
unfolding sent
sent-keeps structure c = go (keeps structure (low_seven c)) refl
  where
    go : (t : Bool) → keeps structure (low_seven c) ≡ t → keeps structure (top_unless t c) ≡ true
    go true kept = kept
    go false broken = mended structure (low_seven c) (low-seven-small c) broken

-- the low seven bits are the same with the top bit and without it
top-bit-apart : (t : Bool) (c : ℕ) → low_seven (top_unless t c) ≡ low_seven c
top-bit-apart true c = omega arith
top-bit-apart false c = omega arith

-- what is sent is heard as the same character
pub sent-heard : (structure c : ℕ) → c < top_bit → heard structure (sent structure c) ≡ c
unfolding heard sent
sent-heard structure c h =
    rw (sent-keeps structure c) (top-bit-apart (keeps structure (low_seven c)) c ∙ omega arith)

-- what is heard has the byte's low seven bits
pub heard-low : (structure byte : ℕ) → low_seven (heard structure byte) ≡ low_seven byte
unfolding heard
heard-low structure byte = top-bit-apart (keeps structure byte) byte

-- what is heard is a line error exactly where the byte breaks the structure
pub heard-error : (structure byte : ℕ) → is_line_error (heard structure byte) ≡ not (keeps structure byte)
unfolding heard
heard-error structure byte = go (keeps structure byte)
  where
    go : (t : Bool) → is_line_error (top_unless t byte) ≡ not t
    go true = lt-leb top_bit (low_seven byte) (low-seven-small byte)
    go false = le-leb top_bit (low_seven byte + top_bit) (omega arith)

-- in structure 0 a byte is heard as it is: the top bit that breaks the structure marks the line error
pub heard-plain : (byte : ℕ) → byte < 256 → heard 0 byte ≡ byte
unfolding heard keeps
heard-plain byte h = go (ltb byte top_bit) refl
  where
    go : (t : Bool) → ltb byte top_bit ≡ t → top_unless t byte ≡ byte
    go true small = let b = ltb-true byte top_bit small in omega arith
    go false large = let b = ltb-false byte top_bit large in omega arith
