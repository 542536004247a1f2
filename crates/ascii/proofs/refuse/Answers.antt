-- The caller's fault goes before the line's.
use Rattle.std.proofs.Common.{rules}
use Rattle.call.specs.Call.{refusal}
use Rattle.ascii.proofs.refuse.Goals as goal

pub returns : goal.returns
unfolding refusal
returns c = search rules
