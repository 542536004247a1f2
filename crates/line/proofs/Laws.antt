-- Laws of ranges, one for each side of a range; of the low seven bits; and of a BCC that takes characters in one by one.
-- Assumes nothing.
use mathlib.Core.Path.{◌≡◌, refl}
use mathlib.Core.Bool.{true, false, and-false}
use mathlib.Core.List.{List, [], ◌∷◌, ◌++◌}
use Prim.Native.Nat.{ℕ, ◌≤◌, ◌<◌}
use native.Mathlib.Nat.{mod-lt}
use native.Mathlib.Omega.{arith}
use borrow.Author.Tests.{leb-true, le-leb, lt-leb}
use lib.Bits.{bit_xor, xor_lt}
use lib.Dec.{leb, lit<}
use Rattle.numbers.proofs.Tests.{both}
use Rattle.line.specs.Line.{top_bit, low_seven, bcc_from, within, printable}

pub within_in : (a b x : ℕ) → a ≤ x → x ≤ b → within a b x ≡ true
within_in a b x low high = simp (le-leb a x low, le-leb x b high)

pub within-below : (a b x : ℕ) → x < a → within a b x ≡ false
within-below a b x low = simp (lt-leb a x low)

pub within-above : (a b x : ℕ) → b < x → within a b x ≡ false
within-above a b x high = simp (lt-leb x b high) (and-false (leb a x))

-- what a range holds is between its ends
pub within-true : (a b x : ℕ) → within a b x ≡ true → (a ≤ x) × (x ≤ b)
within-true a b x e = let h = both (leb a x) (leb x b) e in (leb-true a x h.0, leb-true x b h.1)

pub printable-small : (c : ℕ) → printable c ≡ true → c < top_bit
printable-small c e = let h = within-true 0x20 0x7E c e in omega arith

pub low-seven-small : (c : ℕ) → low_seven c < top_bit
low-seven-small c = mod-lt c (lit< tt)

-- a BCC that is a character stays one
pub taken-small : (sum c : ℕ) → sum < top_bit → bit_xor sum (low_seven c) < top_bit
taken-small sum c h = xor_lt 7 sum (low_seven c) h (low-seven-small c)

-- the character that comes last is taken in last
pub bcc-last : (sum : ℕ) (cs : List ℕ) (c : ℕ) → bcc_from sum (cs ++ (c ∷ [])) ≡ bit_xor (bcc_from sum cs) c
unfolding bcc_from
bcc-last sum [] c = refl
bcc-last sum (d ∷ cs) c = bcc-last (bit_xor sum d) cs c
