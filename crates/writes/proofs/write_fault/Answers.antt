-- Each way out is one of the rules of a request, which has one write.
use Rattle.std.proofs.Common.{◌≡◌, sym, ap, ap₂, ◌∙◌, eq-eqb, ne_eqb, arith, length, Bool, true, false, ℕ, ℤ, List}
use Rattle.numbers.specs.Numbers.{unless}
use Rattle.sign.proofs.Laws.{same}
use Rattle.items.specs.ItemList.{item_at, in_range, place_of}
use Rattle.registers.specs.Register.{of_register}
use Rattle.registers.specs.Faults.{wrong_data, body_length, first_word, second_word}
use Rattle.writes.specs.Writes.{writable, inside, each}
use Rattle.writes.specs.Requests.{writes_from, value_place, write_fault}
use Rattle.writes.proofs.Faults.{form-wrong, register-wrong, registers-right, one-tested}
use Rattle.writes.proofs.write_fault.Goals as goal

pub returns-then-body-ne-BODY_LENGTH : goal.returns-then-body-ne-BODY_LENGTH
unfolding write_fault
returns-then-body-ne-BODY_LENGTH c = sym (form-wrong _ _ (ne_eqb (length c.args.body.now) body_length (λ z. omega arith)))

module _ (body : List ℕ) (six : length body ≡ body_length) (place : ℕ) (at : place ≡ place_of (first_word body)) (kind : Bool)
    (kinds : kind ≡ (item_at place).writable) where
  -- whether the item is writable, as the calls gave it
  asked : kind ≡ each writable (writes_from value_place body)
  asked = kinds ∙ ap (λ (i : ℕ). (item_at i).writable) at ∙ sym (one-tested body six writable)

  read-only : kind ≡ false → write_fault body ≡ 32
  unfolding write_fault
  read-only f = register-wrong _ _ (eq-eqb (length body) body_length six) (sym asked ∙ f)

  -- what the rules give after the value was looked at
  ranged : kind ≡ true → (value : ℤ) → value ≡ of_register (second_word body) → (r : Bool) → r ≡ in_range place value
      → write_fault body ≡ unless r wrong_data
  unfolding write_fault
  ranged t value v r e =
      registers-right _ _ (eq-eqb (length body) body_length six) (sym asked ∙ t)
      (e ∙ ap₂ in_range at v ∙ sym (one-tested body six inside))

pub returns-then-not-writable : goal.returns-then-not-writable
returns-then-not-writable c =
    sym (read-only c.args.body.now (omega arith) _ (c.place_of-i.ensures ∙ ap place_of c.first_word.ensures) _ c.writable.ensures
    c.if-not-writable.true)

pub returns-then-in_range : goal.returns-then-in_range
returns-then-in_range c =
    let value = c.of_register in
    sym (ranged c.args.body.now (omega arith) _ (c.place_of-i.ensures ∙ ap place_of c.first_word.ensures) _ c.writable.ensures
    c.if-not-writable.false _ (same value.result value.type_inv ∙ value.ensures ∙ ap of_register c.second_word.ensures) _ c.in_range.ensures
    ∙ ap (λ (b : Bool). unless b wrong_data) c.if-in_range.true)

pub returns-else-in_range : goal.returns-else-in_range
returns-else-in_range c =
    let value = c.of_register in
    sym (ranged c.args.body.now (omega arith) _ (c.place_of-i.ensures ∙ ap place_of c.first_word.ensures) _ c.writable.ensures
    c.if-not-writable.false _ (same value.result value.type_inv ∙ value.ensures ∙ ap of_register c.second_word.ensures) _ c.in_range.ensures
    ∙ ap (λ (b : Bool). unless b wrong_data) c.if-in_range.false)
