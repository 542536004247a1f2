-- What the calls ensure is what is sent.
use Rattle.line.specs.Line.{sent}
use Rattle.line.proofs.sent.Goals as goal

pub returns : goal.returns
unfolding sent
returns c = cc
