-- `panel::vb_rtu`: the reply of `rtu::frame` has room in the result.
use Rattle.panel.proofs.Frames.{acts-short}
use Rattle.panel.proofs.vb_rtu.Goals as goal

pub result-requires : goal.result-requires
result-requires c = acts-short c.frame-answered.ensures
