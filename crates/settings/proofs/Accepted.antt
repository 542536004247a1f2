-- A write that the rules accept, case by case, and what every message leaves of the table by whether it is one.
-- Assumes nothing.
use mathlib.Core.Path.{◌≡◌, refl, sym, ap, ◌∙◌}
use mathlib.Core.Logic.{inl, inr, ⊎_elim}
use mathlib.Core.Bool.{Bool, true, false, ◌&&◌}
use mathlib.Core.List.{List}
use Prim.Native.Nat.{ℕ}
use borrow.Author.Tests.{eqb-true, eqb-false, eq-eqb, ne_eqb}
use lib.Dec.{eqb}
use lib.IntN.{ℤ}
use lib.ListN.{take}
use Rattle.numbers.specs.Numbers.{none, unless_met}
use Rattle.numbers.proofs.Tests.{contrary, both}
use Rattle.numbers.proofs.Order.{is-done, either_way}
use Rattle.registers.specs.Faults.{right_length, first_word, count_place, data_place, right_counts}
use Rattle.writes.specs.Writes.{writes, allowed, each, stored_all}
use Rattle.writes.specs.Requests.{writes_from, write_fault, value_place, several_fault}
use Rattle.writes.proofs.Faults.{none-where-allowed}
use Rattle.modbus.specs.Outcome.{Outcome, function_of, done, exception}
use Rattle.modbus.specs.Rules.{write_register, write_several, writing, writing_several, ours, acted}
use Rattle.modbus.proofs.Acting.{obeying-write, obeying-several, acted-ours, acted-other}
use Rattle.modbus.proofs.Laws.{every}
use Rattle.settings.specs.Settings.{writes_of, right_form, accepts_write, ToWrite}
use Rattle.settings.proofs.Settings.{data-one, data-several}

-- ---- by the address, the form and the writes

module _ (address : ℕ) (body : List ℕ) where
  pub other-address : ours address body ≡ false → accepts_write address body ≡ false
  unfolding accepts_write
  other-address o = rw o

  pub wrong-form : ours address body ≡ true → right_form body ≡ false → accepts_write address body ≡ false
  unfolding accepts_write
  wrong-form o f = rw (o, f)

-- ---- by the function

module _ (body : List ℕ) where
  pub form-one : function_of body ≡ write_register → right_form body ≡ right_length body
  form-one f = rw f

  pub form-several : function_of body ≡ write_several → right_form body ≡ right_counts body
  form-several f = rw f

  pub form-other : (function_of body ≡ write_register → ⊥) → (function_of body ≡ write_several → ⊥) → right_form body ≡ false
  form-other w s = rw (ne_eqb (function_of body) write_register w, ne_eqb (function_of body) write_several s)

-- only a message that asks to write is accepted
pub accepted-asks : (address : ℕ) (body : List ℕ) → accepts_write address body ≡ true → ToWrite body
unfolding accepts_write
accepted-asks address body a = by (eqb (function_of body) write_register) (eqb (function_of body) write_several) refl refl
  where
    form : right_form body ≡ true
    form = (both (ours address body) (right_form body) (both (ours address body && right_form body) (each allowed (writes_of body)) a).0).1

    by : (one several : Bool) → eqb (function_of body) write_register ≡ one → eqb (function_of body) write_several ≡ several → ToWrite body
    by true several f g = inl (eqb-true (function_of body) write_register f)
    by false true f g = inr (eqb-true (function_of body) write_several g)
    by false false f g =
        contrary
        (sym form ∙ form-other body (eqb-false (function_of body) write_register f) (eqb-false (function_of body) write_several g))

-- a message that is ours is accepted exactly when its function meets no fault
module _ (address : ℕ) (body : List ℕ) (o : ours address body ≡ true) where
  one-accepted : function_of body ≡ write_register → accepts_write address body ≡ eqb (write_fault body) none
  unfolding accepts_write write_fault
  one-accepted f =
      rw (o, form-one body f, data-one body f) (sym (none-where-allowed (right_length body) (writes_from value_place body)))

  several-accepted : function_of body ≡ write_several → accepts_write address body ≡ eqb (several_fault body) none
  unfolding accepts_write several_fault
  several-accepted f =
      rw (o, form-several body f, data-several body f) (sym (none-where-allowed (right_counts body) (writes_from data_place body)))

-- ---- the number that a message is given, and the table that it leaves

-- what comes of a fault is given that number
fault-number : (t : List ℤ) (body reply : List ℕ) (left : List ℤ) (fault : ℕ) {o : Outcome}
    → o ≡ unless_met fault (exception t body) (done reply left) → o.number ≡ fault
fault-number t body reply left fault e =
    ap (λ (o : Outcome). o.number) e
    ∙ either_way fault (exception t body) (done reply left) (λ (o : Outcome). o.number ≡ fault) (λ _. refl) sym

module _ (t : List ℤ) (address : ℕ) (body : List ℕ) where
  -- a write that is accepted stores all that it asks to write
  pub accepted-stores : accepts_write address body ≡ true → (acted t address body).table ≡ stored_all t (writes_of body)
  unfolding accepts_write writing writing_several
  accepted-stores a = by (eqb (function_of body) write_register) (eqb (function_of body) write_several) refl refl
    where
      is_ours : ours address body ≡ true
      is_ours = (both (ours address body) (right_form body) (both (ours address body && right_form body) (each allowed (writes_of body)) a).0).0

      by : (one several : Bool) → eqb (function_of body) write_register ≡ one → eqb (function_of body) write_several ≡ several
          → (acted t address body).table ≡ stored_all t (writes_of body)
      by true several f g =
          let function = eqb-true (function_of body) write_register f in
          let none-met = eqb-true (write_fault body) none (sym (one-accepted address body is_ours function) ∙ a) in
          ap (λ (x : Outcome). x.table)
          (acted-ours t address body is_ours ∙ obeying-write t body function
          ∙ is-done (write_fault body) (exception t body) (done body (stored_all t (writes_from value_place body))) none-met)
          ∙ ap (λ (bytes : List ℕ). stored_all t (writes (first_word body) bytes)) (sym (data-one body function))
      by false true f g =
          let function = eqb-true (function_of body) write_several g in
          let none-met = eqb-true (several_fault body) none (sym (several-accepted address body is_ours function) ∙ a) in
          ap (λ (x : Outcome). x.table)
          (acted-ours t address body is_ours ∙ obeying-several t body function
          ∙ is-done (several_fault body) (exception t body) (done (take count_place body) (stored_all t (writes_from data_place body))) none-met)
          ∙ ap (λ (bytes : List ℕ). stored_all t (writes (first_word body) bytes)) (sym (data-several body function))
      by false false f g =
          let one = eqb-false (function_of body) write_register f in
          let several = eqb-false (function_of body) write_several g in
          contrary (sym a ∙ wrong-form address body is_ours (form-other body one several))

  -- a message that asks to write is accepted exactly when it is given no number
  pub accepted-number : ToWrite body → accepts_write address body ≡ eqb (acted t address body).number none
  unfolding writing writing_several
  accepted-number w = by (ours address body) refl
    where
      by : (b : Bool) → ours address body ≡ b → accepts_write address body ≡ eqb (acted t address body).number none
      by false o = other-address address body o ∙ sym (ap (λ (x : Outcome). eqb x.number none) (acted-other t address body o))
      by true o =
          ⊎_elim
          (λ f.
          one-accepted address body o f
          ∙ ap (λ (n : ℕ). eqb n none)
          (sym (fault-number t body body _ (write_fault body) (acted-ours t address body o ∙ obeying-write t body f))))
          (λ f.
          several-accepted address body o f
          ∙ ap (λ (n : ℕ). eqb n none)
          (sym (fault-number t body _ _ (several_fault body) (acted-ours t address body o ∙ obeying-several t body f))))
          w

  -- any other message leaves the table
  pub others-leave : accepts_write address body ≡ false → (acted t address body).table ≡ t
  others-leave a = by (ours address body) refl
    where
      by : (b : Bool) → ours address body ≡ b → (acted t address body).table ≡ t
      by false o = ap (λ (x : Outcome). x.table) (acted-other t address body o)
      by true o =
          every (λ (x : Outcome). x.table ≡ t) t address body refl (λ number n. refl) (λ f q. refl)
          (λ f q. contrary (sym (eq-eqb (write_fault body) none q) ∙ sym (one-accepted address body o f) ∙ a))
          (λ f q. refl)
          (λ f q. contrary (sym (eq-eqb (several_fault body) none q) ∙ sym (several-accepted address body o f) ∙ a))
