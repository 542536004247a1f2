-- The one write of a request that meets no fault is stored.
use Rattle.std.proofs.Common.{refl, sym, ap, ap₂, ◌∙◌}
use Rattle.std.proofs.lemmas.Result.{err_from_is_err_and}
use Rattle.numbers.proofs.Refusals.{refusal-met}
use Rattle.sign.proofs.Laws.{same}
use Rattle.items.specs.ItemList.{place_of}
use Rattle.table.specs.Table.{stored}
use Rattle.registers.specs.Register.{of_register}
use Rattle.writes.specs.Writes.{stored_all}
use Rattle.writes.proofs.Faults.{none-stored, all-stored, write-long, one-write}
use Rattle.writes.proofs.write_one.Goals as goal

pub returns-in_err-write_fault : goal.returns-in_err-write_fault
returns-in_err-write_fault c =
    let refusal = c.in_err-write_fault.field-0.0 in
    let given = err_from_is_err_and c.from_residual.result c.from_residual.ensures.1 in
    rw (given.1, given.2) (none-stored _ _ _ (c.in_err-write_fault.ensures) (refusal-met refusal))

pub returns : goal.returns
returns c =
    let body = c.args.body.now in
    let t = c.args.table.now in
    let fault = c.in_ok-write_fault.ensures in
    let value = c.of_register in
    let six = write-long body (sym fault) in
    all-stored _ _ _ fault refl
    (c.store.ensures
    ∙ ap₂ (stored t) (c.place_of.ensures ∙ ap place_of c.first_word.ensures)
    (same value.result value.type_inv ∙ value.ensures ∙ ap of_register c.second_word.ensures)
    ∙ sym (ap (stored_all t) (one-write body six)))
