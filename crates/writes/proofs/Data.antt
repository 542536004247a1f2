-- The writes that bytes of data ask for, one for each two bytes: the first of them, and those behind it.
-- Assumes nothing.
use Rattle.std.specs.List.{list_all}
use Rattle.std.specs.Fn.{Called}
use Rattle.std.specs.Iterator.{ChecksAll, YieldsFirstBy}
use Rattle.std.proofs.lemmas.Iterator.Consumers.{YieldsList-from_first}
use Rattle.std.proofs.lemmas.Iterator.Search.{all_from_yields_List}
use denote.Param.Members.{Mut}
use mathlib.Core.Path.{◌≡◌, refl, sym, ap, ap₂, ◌∙◌}
use mathlib.Core.Bool.{Bool, true, false, ◌&&◌, and-true}
use mathlib.Core.List.{List, [], ◌∷◌}
use Prim.Native.Nat.{ℕ, suc, ◌+◌, ◌-◌, ◌≤◌, ◌<◌, min}
use native.Mathlib.Omega.{arith}
use borrow.Author.Tests.{ltb-true, ltb-false}
use lib.Dec.{ltb}
use lib.IntN.{ℤ}
use lib.ListN.{length, get_or, take, drop, length-drop}
use lib.Seq.{take_all}
use Rattle.items.specs.ItemList.{map_size, place_of}
use Rattle.items.proofs.Lookup.{place-past}
use Rattle.registers.specs.Register.{of_register, word}
use Rattle.writes.specs.declared.Asked.{Asked}
use Rattle.writes.specs.Asked.{write, left}
use Rattle.writes.specs.Writes.{Write, writes, writable, inside, each}

-- what is left of a body from a place on is the part that ends where the body ends
pub to_the_end : (place : ℕ) (body : List ℕ) → take (length body - place) (drop place body) ≡ drop place body
to_the_end place body = take_all (length body - place) (drop place body) (simp length-drop (omega arith))

-- one byte is no register
pub writes-none : (r : ℕ) (bytes : List ℕ) → length bytes < 2 → writes r bytes ≡ []
writes-none r [] s = refl
writes-none r (high ∷ []) s = refl
writes-none r (high ∷ low ∷ bytes) s = absurd (omega arith)

-- registers past the map are all no item's
writes-past : (r s : ℕ) (bytes : List ℕ) → map_size ≤ r → map_size ≤ s → writes r bytes ≡ writes s bytes
writes-past r s [] h k = refl
writes-past r s (high ∷ []) h k = refl
writes-past r s (high ∷ low ∷ bytes) h k =
    ap₂ (λ (place : ℕ) (ws : List Write). record { place = place; value = of_register (word high low) } ∷ ws)
    (place-past r h ∙ sym (place-past s k)) (writes-past (suc r) (suc s) bytes (omega arith) (omega arith))

-- the first of the writes, and those behind it: the walk stays at the last register that a number names
pub writes-first : (r next place : ℕ) (value : ℤ) (bytes behind : List ℕ) → 2 ≤ length bytes → behind ≡ drop 2 bytes → next ≡ min (r + 1) 65535
    → place ≡ place_of r → value ≡ of_register (word (get_or bytes 0 0) (get_or bytes 1 0))
    → writes r bytes ≡ record { place = place; value = value } ∷ writes next behind
writes-first r next place value [] behind h b n p v = absurd (omega arith)
writes-first r next place value (high ∷ []) behind h b n p v = absurd (omega arith)
writes-first r next place value (high ∷ low ∷ bytes) behind h b n p v =
    rw (b, p, v)
    (ap (λ (ws : List Write). record { place = place_of r; value = of_register (word high low) } ∷ ws) (by (ltb 65535 (suc r)) refl))
  where
    by : (far : Bool) → ltb 65535 (suc r) ≡ far → writes (suc r) bytes ≡ writes next bytes
    by true e = writes-past (suc r) next bytes (omega (arith, ltb-true _ _ e)) (omega (arith, ltb-true _ _ e))
    by false e = ap (λ (s : ℕ). writes s bytes) (omega (arith, ltb-false _ _ e))

-- what a walk that makes a test of each write comes to
pub each-checked : {F : Type 0} {g : Mut F ((ℕ × ℤ) × Unit {0}) Bool} (test : Write → Bool) (ws : List Write) (s u : Asked) (f : F) (r : Bool)
    → left s ≡ ws → ChecksAll (YieldsFirstBy write left) g s f r u
    → ((x : ℕ × ℤ) (b : Bool) (q : F) → Called g f (x, tt) b q → (q ≡ f) × (b ≡ test (write x))) → r ≡ each test ws
each-checked test ws s u f r e ran closure =
    all_from_yields_List test u f r ran (YieldsList-from_first write left {s = s} ws e) closure ∙ same-test ws
  where
    same-test : (ws : List Write) → list_all test ws ≡ each test ws
    same-test [] = refl
    same-test (w ∷ ws) = ap (λ (b : Bool). test w && b) (same-test ws)

-- what was judged so far of writes, and what is left to be judged
pub record Judged (ws left : List Write) (so_far : Bool) : Type 0 where
  pub registers : each writable left ≡ each writable ws
  pub values : so_far && each inside left ≡ each inside ws

module _ (ws : List Write) {left : List Write} {so_far : Bool} (j : Judged ws left so_far) where
  pub judged-fails : (w : Write) (behind : List Write) → left ≡ w ∷ behind → writable w ≡ false → each writable ws ≡ false
  judged-fails w behind first f = sym j.registers ∙ ap (each writable) first ∙ ap (λ (b : Bool). b && each writable behind) f

  pub judged-all : left ≡ [] → (each writable ws ≡ true) × (so_far ≡ each inside ws)
  judged-all none = (
    sym j.registers ∙ ap (each writable) none,
    sym (and-true so_far) ∙ ap (λ (l : List Write). so_far && each inside l) (sym none) ∙ j.values,
  )
