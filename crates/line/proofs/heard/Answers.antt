-- In structure 0 the byte is what is heard, and else what the calls ensure.
use Rattle.std.proofs.Common.{sym, arith}
use Rattle.line.specs.Line.{heard}
use Rattle.line.proofs.Parity.{heard-plain}
use Rattle.line.proofs.heard.Goals as goal

pub returns-then-structure-eq0 : goal.returns-then-structure-eq0
returns-then-structure-eq0 c = rw c.if-structure-eq0.true (sym (heard-plain c.args.byte (omega arith)))

pub returns : goal.returns
unfolding heard
returns c = cc
