-- Three stores, and the registers behind them, are the reply at the buffer's front.
use Rattle.std.proofs.Common.{ℕ, List, ◌*◌, ap₂, ◌∙◌, get_or, set, length-set, arith}
use Rattle.std.proofs.lemmas.List.Edits.{sets}
use Rattle.registers.specs.Register.{registers_from}
use Rattle.registers.specs.Faults.{first_word, second_word}
use Rattle.registers.proofs.Faults.{read-accepted}
use Rattle.modbus.specs.Rules.{read_reply}
use Rattle.modbus.proofs.Stores.{length-registers}
use Rattle.modbus.proofs.send_registers.Goals as goal

pub bounds-body-0 : goal.bounds-body-0
bounds-body-0 c = let q = read-accepted _ c.requires in omega arith

pub bounds-body-1 : goal.bounds-body-1
bounds-body-1 c = let q = read-accepted _ c.requires in omega arith

pub overflow_mul-reply : goal.overflow_mul-reply
overflow_mul-reply c = let q = read-accepted _ c.requires in omega arith

pub overflow_cast-reply : goal.overflow_cast-reply
overflow_cast-reply c = let q = read-accepted _ c.requires in omega arith

pub put_registers-requires : goal.put_registers-requires
put_registers-requires c =
    let q = read-accepted _ c.requires in
    (omega arith, simp length-set (omega arith))

pub returns : goal.returns
unfolding read_reply
returns c =
    let start = c.first_word-start.ensures in
    let quantity = c.second_word-quantity.ensures in
    let a = c.args in
    let head : ℕ → List ℕ = λ (n : ℕ). set (set (set a.reply.now 0 (get_or a.body.now 0 0)) 1 (get_or a.body.now 1 0)) 2 (2 * n) in
    record {
      len = omega (arith, length-registers a.table.now (first_word a.body.now) (second_word a.body.now));
      sent = c.put_registers.ensures ∙ ap₂ (λ (s n : ℕ). sets (head n) 3 (registers_from a.table.now s n)) start quantity;
    }
