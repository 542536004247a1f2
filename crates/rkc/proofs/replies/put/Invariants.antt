-- The loop's invariant: sending what is left gives the buffer that sending all gives.
use Rattle.std.proofs.Common.{◌≡◌, map, drop}
use Rattle.std.proofs.lemmas.List.Edits.{sets}
use Rattle.line.specs.Line.{sent}
use Rattle.rkc.proofs.replies.put.Given as goal

abbrev pub invariant-loop-i : goal.invariant-loop-i
invariant-loop-i l = sets l.reply l.i (map (sent l.structure) (drop l.i l.chars)) ≡ sets l.initial.reply 0 (map (sent l.structure) l.chars)
