-- The caller's fault goes before the frame's.
use Rattle.std.proofs.Common.{rules}
use Rattle.call.specs.Call.{refusal}
use Rattle.rtu.proofs.refusal.Goals as goal

pub returns-in_err-fault : goal.returns-in_err-fault
unfolding refusal
returns-in_err-fault c = search rules

pub returns : goal.returns
unfolding refusal
returns c = search rules
