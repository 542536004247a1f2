-- What writes give an item, told by the registers that are left: those from so many behind the start on.
-- Assumes nothing.
use Rattle.std.specs.Prelude.{Option, Some, None}
use mathlib.Core.Path.{◌≡◌, sym, ap, ◌∙◌}
use mathlib.Core.Bool.{cond}
use mathlib.Core.List.{List, [], ◌∷◌}
use Prim.Native.Nat.{ℕ, zero, suc, ◌+◌, ◌*◌, ◌/◌, ◌≤◌, ◌<◌}
use native.Mathlib.Nat.{add-zero}
use native.Mathlib.Numerals.{add-one}
use native.Mathlib.Omega.{arith}
use borrow.Author.Tests.{eq-eqb, ne_eqb}
use lib.Dec.{eqb}
use lib.IntN.{ℤ}
use lib.ListN.{length, get_or, drop, length-drop}
use lib.Seq.{drop-cons}
use Rattle.items.specs.ItemList.{place_of}
use Rattle.registers.specs.Register.{of_register, word}
use Rattle.writes.specs.Writes.{Write, writes, later, given}
use Rattle.writes.proofs.Data.{writes-none}

module _ (start : ℕ) (bytes : List ℕ) where
  -- those for the registers from i behind the start on
  abbrev pub left : ℕ → List Write
  left i = writes (start + i) (drop (2 * i) bytes)

  -- the one for the register i behind the start
  abbrev pub at : ℕ → Write
  at i = record { place = place_of (start + i); value = of_register (word (get_or bytes (2 * i) 0) (get_or bytes (2 * i + 1) 0)) }

  pub all_left : left 0 ≡ writes start bytes
  all_left = ap (λ (r : ℕ). writes r bytes) (add-zero start)

  pub one_left : (i : ℕ) → i < length bytes / 2 → left i ≡ at i ∷ left (i + 1)
  one_left i h =
      let next : start + (i + 1) ≡ suc (start + i) = omega arith in
      let low : 2 * i + 1 ≡ suc (2 * i) = omega arith in
      let behind : 2 * (i + 1) ≡ suc (suc (2 * i)) = omega arith in
      rw (next, low, behind, drop-cons bytes (2 * i) 0 (omega arith), drop-cons bytes (suc (2 * i)) 0 (omega arith))

  pub none_left : (i : ℕ) → length bytes / 2 ≤ i → left i ≡ []
  none_left i h = writes-none (start + i) (drop (2 * i) bytes) (simp length-drop (omega arith))

  -- what is given by the writes that are left: the last that is the item's counts, so what they give is given by all
  module _ (item : ℕ) where
    abbrev pub GivenFrom : ℕ → Option ℤ → Type 0
    GivenFrom i g = given (left i) item ≡ g

    pub gives_none : (i : ℕ) → length bytes / 2 ≤ i → GivenFrom i None
    gives_none i h = ap (λ (ws : List Write). given ws item) (none_left i h)

    -- where those behind it give nothing, this one decides
    gives-here : (i : ℕ) → GivenFrom (i + 1) None → i < length bytes / 2
        → GivenFrom i (cond (eqb (at i).place item) (Some (at i).value) None)
    gives-here i so h =
        ap (λ (ws : List Write). given ws item) (one_left i h)
        ∙ ap (λ (g : Option ℤ). later g (cond (eqb (at i).place item) (Some (at i).value) None)) so

    pub gives-this : (i : ℕ) → GivenFrom (i + 1) None → i < length bytes / 2 → (at i).place ≡ item → GivenFrom i (Some (at i).value)
    gives-this i so h e = gives-here i so h ∙ rw (eq-eqb (at i).place item e)

    pub gives-on : (i : ℕ) → GivenFrom (i + 1) None → i < length bytes / 2 → ((at i).place ≡ item → ⊥) → GivenFrom i None
    gives-on i so h e = gives-here i so h ∙ rw (ne_eqb (at i).place item e)

    -- a value that is given stays given by more of the writes
    pub value_stays : (i : ℕ) {v : ℤ} → i ≤ length bytes / 2 → GivenFrom i (Some v) → given (writes start bytes) item ≡ Some v
    value_stays zero h g = ap (λ (ws : List Write). given ws item) (sym all_left) ∙ g
    value_stays (suc i) {v} h g =
        let next : GivenFrom (i + 1) (Some v) = rw (add-one i) g in
        value_stays i (omega arith)
        (ap (λ (ws : List Write). given ws item) (one_left i (omega arith))
        ∙ ap (λ (x : Option ℤ). later x (cond (eqb (at i).place item) (Some (at i).value) None)) next)

    pub none-given : GivenFrom 0 None → given (writes start bytes) item ≡ None
    none-given g = ap (λ (ws : List Write). given ws item) (sym all_left) ∙ g
