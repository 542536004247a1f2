-- Two bytes make a write.
use Rattle.std.proofs.Common.{arith, ap, ◌∙◌}
use Rattle.sign.proofs.Laws.{same}
use Rattle.registers.specs.Register.{of_register}
use Rattle.writes.proofs.Data.{to_the_end, writes-none, writes-first}
use Rattle.writes.proofs.AskedIterator.next.Goals as goal

pub returns-in_default-clause-steps : goal.returns-in_default-clause-steps
returns-in_default-clause-steps c = let none = writes-none c.args.self.now.register c.args.self.now.bytes.now (omega arith) in (none, none)

pub returns-clause-steps : goal.returns-clause-steps
returns-clause-steps c =
    let value = c.of_register-value in
    writes-first _ _ _ _ c.args.self.now.bytes.now _ (omega arith) (to_the_end 2 c.args.self.now.bytes.now) c.saturating_add-self.ensures c.place_of-place.ensures
    (same value.result value.type_inv ∙ value.ensures ∙ ap of_register c.word.ensures)
