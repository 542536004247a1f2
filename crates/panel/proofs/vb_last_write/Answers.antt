-- `panel::vb_last_write`: the records read have room in 32 bits, and what is told is what was asked.
use Rattle.std.proofs.Common.{arith, ap, ap₂, ◌∙◌}
use Rattle.std.proofs.Math.Facts.{to_z-of_z}
use Rattle.std.specs.Int.{from_bool, w32}
use Rattle.last_write.proofs.Walked.{read_small}
use Rattle.panel.specs.Calls.{result_of}
use Rattle.numbers.proofs.Refusals.{given_if}
use Rattle.panel.proofs.Outcomes.{answer-found, told-found, told-value}
use Rattle.panel.proofs.vb_last_write.Goals as goal

pub overflow_cast-records : goal.overflow_cast-records
overflow_cast-records c =
    let small = read_small (record { address = c.args.address; item = c.args.item }) c.args.capture.now in
    let found = answer-found _ c.unwrap_or-found.ensures c.ask-asked.ensures in
    omega (arith, found.read)

pub returns : goal.returns
returns c =
    let found = answer-found _ c.unwrap_or-found.ensures c.ask-asked.ensures in
    record {
      given = c.result.ensures
          ∙ ap₂ result_of (given_if _ c.err.ensures.value c.number_if.ensures ∙ found.given) (c.from.ensures ∙ ap from_bool c.is_some.ensures ∙ told-found found.written);
      written = to_z-of_z {w = w32} (record { sfits = c.unwrap_or.type_inv }) ∙ c.unwrap_or.ensures ∙ told-value found.written;
      read = found.read;
    }
