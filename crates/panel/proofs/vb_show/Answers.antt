-- `panel::vb_show`: place and length of a frame that is shown have room in 32 bits.
use Rattle.std.proofs.Common.{arith, ◌∙◌}
use Rattle.numbers.proofs.Refusals.{given_if}
use Rattle.panel.proofs.Outcomes.{stretch-small, stretch-shown}
use Rattle.panel.proofs.vb_show.Goals as goal

pub overflow_cast-place : goal.overflow_cast-place
overflow_cast-place c =
    let small = stretch-small _ _ _ _ c.unwrap_or-stretch.ensures c.look_up-shown.ensures in
    omega arith

pub overflow_cast-length : goal.overflow_cast-length
overflow_cast-length c =
    let small = stretch-small _ _ _ _ c.unwrap_or-stretch.ensures c.look_up-shown.ensures in
    omega arith

pub returns : goal.returns
returns c =
    stretch-shown _ _ _ _ _ c.unwrap_or-stretch.ensures c.look_up-shown.ensures (c.from.ensures ∙ given_if _ c.err.ensures.value c.number_if.ensures)
