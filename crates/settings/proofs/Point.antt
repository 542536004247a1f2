-- The decimal point chosen on site: what is claimed in specs/Point.antt of every message.
-- Assumes nothing.
use Rattle.std.specs.Prelude.{Option, Some, None}
use mathlib.Core.Path.{◌≡◌, refl, sym, ap, ap₂, ◌∙◌}
use mathlib.Core.Logic.{◌≢◌, inl, inr, ⊎_elim}
use mathlib.Core.Bool.{Bool, true, false, cond}
use mathlib.Core.List.{List, ◌∷◌, ◌++◌}
use Prim.Native.Nat.{ℕ, zero, suc, ◌*◌}
use native.Mathlib.Omega.{arith}
use borrow.Author.Tests.{eqb-true, ltb-true, ltb-false}
use lib.Dec.{eqb, ltb}
use lib.IntN.{ℤ}
use Rattle.numbers.specs.Numbers.{none, unless, unless_met}
use Rattle.items.specs.ItemList.{Item, items, item_at, found_by_register, place_of}
use Rattle.items.proofs.Lists.{line-past}
use Rattle.items.proofs.Lookup.{found-register, own-place}
use Rattle.table.specs.Table.{XU, answered, SameButXU}
use Rattle.table.proofs.Laws.{good-but-xu}
use Rattle.registers.specs.Register.{to_register, high_first, read_as, register_at, registers_from}
use Rattle.registers.specs.Faults.{first_word, second_word, read_fault, loopback_fault}
use Rattle.writes.specs.Writes.{Outside}
use Rattle.writes.specs.Requests.{write_fault, several_fault}
use Rattle.modbus.specs.Outcome.{Outcome, other_address, silent, address_of, function_of}
use Rattle.modbus.specs.Rules.{read_registers, write_register, loopback, write_several, read_reply}
use Rattle.modbus.specs.Rules.{reading, writing, looping_back, writing_several, obeying, ours, acted}
use Rattle.modbus.proofs.Laws.{good-stays}
use Rattle.settings.specs.Point.{xu_register, SameAnswer, OfXU}
use Rattle.settings.proofs.Settings.{writing-claimed}

-- ---- no other item has the register of XU

other-register : (j : ℕ) → j ≢ XU → (item_at j).register ≢ xu_register
unfolding place_of found_by_register
other-register j other e = by (ltb j items) refl
  where
    by : (b : Bool) → ltb j items ≡ b → ⊥
    by true l = other (sym (own-place j (ltb-true j items l)) ∙ ap place_of e)
    by false l = let past = ap (λ (x : Item). x.register) (line-past j (ltb-false j items l)) in omega arith

-- so each is outside a span that has this register alone
outside-it : (start quantity register : ℕ) → start ≡ xu_register → quantity ≡ 1 → register ≢ xu_register → Outside start quantity register
outside-it start quantity register at one other = by (ltb register start) refl
  where
    by : (b : Bool) → ltb register start ≡ b → Outside start quantity register
    by true l = inl (ltb-true register start l)
    by false l = let least = ltb-false register start l in inr (omega arith)

-- ---- what registers read

module _ (t u : List ℤ) (same : SameButXU t u) where
  register-stays : (r : ℕ) → r ≢ xu_register → register_at u r ≡ register_at t r
  unfolding answered register_at
  register-stays r other = by (found_by_register r) refl
    where
      by : (f : Option ℕ) → found_by_register r ≡ f → read_as u f ≡ read_as t f
      by (Some j) e = ap to_register (same.others j (λ z. other (sym (found-register r j e).1 ∙ ap (λ (k : ℕ). (item_at k).register) z)))
      by None e = refl

  registers-stay : (r n : ℕ) → Outside r n xu_register → registers_from u r n ≡ registers_from t r n
  registers-stay r zero o = refl
  registers-stay r (suc n) o =
      ap₂ (λ (w : ℕ) (rest : List ℕ). high_first w ++ rest) (register-stays r (⊎_elim (λ l e. omega arith) (λ l e. omega arith) o))
      (registers-stay (suc r) n (⊎_elim (λ l. inl (omega arith)) (λ l. inr (omega arith)) o))

-- ---- what a message is answered

-- two that begin with the same test
by-test : (test : Bool) {o o' p p' : Outcome} → (test ≡ true → SameAnswer o o') → SameAnswer p p' → SameAnswer (cond test o p) (cond test o' p')
by-test true held failed = held refl
by-test false held failed = failed

module _ (t u : List ℤ) (address : ℕ) (body : List ℕ)
    (reads : function_of body ≡ read_registers → registers_from u (first_word body) (second_word body) ≡ registers_from t (first_word body) (second_word body)) where
  -- a request of any function has the same faults, and the reply of a read alone has registers in it
  obeyed-same : SameAnswer (obeying u body) (obeying t body)
  unfolding read_reply reading writing looping_back writing_several obeying
  obeyed-same =
      by-test (eqb (function_of body) read_registers)
      (λ e. by-test (eqb (read_fault body) none) (λ _. record { number = refl; reply = ap (λ (l : List ℕ). address_of body ∷ function_of body ∷ 2 * second_word body ∷ l) (reads (eqb-true _ _ e)) }) same)
      (by-test (eqb (function_of body) write_register) (λ _. by-test (eqb (write_fault body) none) (λ _. same) same)
      (by-test (eqb (function_of body) loopback) (λ _. by-test (eqb (loopback_fault body) none) (λ _. same) same)
      (by-test (eqb (function_of body) write_several) (λ _. by-test (eqb (several_fault body) none) (λ _. same) same) same)))
    where
      -- number and reply do not go by the table
      same : {number : ℕ} {reply : List ℕ} {left right : List ℤ}
          → SameAnswer (record { number = number; reply = reply; table = left }) (record { number = number; reply = reply; table = right })
      same = record { number = refl; reply = refl }

  answered-same : SameAnswer (acted u address body) (acted t address body)
  unfolding acted
  answered-same = by (ours address body)
    where
      by : (b : Bool) → SameAnswer (unless_met (unless b other_address) (silent u) (obeying u body)) (unless_met (unless b other_address) (silent t) (obeying t body))
      by true = obeyed-same
      by false = record { number = refl; reply = refl }

-- ---- the claim

pub xu-claimed : (t : List ℤ) (address : ℕ) (body : List ℕ) → OfXU t address body
xu-claimed t address body = record {
  changes_alone = λ g at one.
      good-but-xu t (acted t address body).table g (good-stays t address body g)
      (λ j o other. (writing-claimed t address body).outside_stays j o (outside-it _ _ (item_at j).register at one (other-register j other)));
  registers_stay = λ u same r other. register-stays t u same r other;
  answers_stay = λ u same outside.
      answered-same t u address body (λ e. registers-stay t u same (first_word body) (second_word body) (outside e));
}
