-- `panel::vb_ascii`: the reply of `ascii::line` has room in the result.
use Rattle.panel.proofs.Frames.{line-short}
use Rattle.panel.proofs.vb_ascii.Goals as goal

pub result-requires : goal.result-requires
result-requires c = line-short _ _ c.line-answer.ensures
