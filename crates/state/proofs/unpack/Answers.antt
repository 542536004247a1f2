-- `state::unpack`: bytes of another length, and those of the right one.
use Rattle.std.proofs.Common.{◌∙◌}
use Rattle.state.proofs.Packing.{other_length, own-length}
use Rattle.state.proofs.unpack.Goals as goal

pub returns-in-Some : goal.returns-in-Some
returns-in-Some c =
    let chunk = c.in-Some.ensures.cases in
    c.fields.ensures ∙ rw chunk.same (own-length _ chunk.long)

pub returns-in-None : goal.returns-in-None
returns-in-None c = rw c.start.ensures (other_length _ c.in-None.ensures.cases)
