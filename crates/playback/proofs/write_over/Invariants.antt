-- The loop of `write_over`: the entries in front of this one were written over.
use Rattle.std.proofs.Math.IntN.{pos}
use Rattle.playback.proofs.Walked.{Come, known_over}
use Rattle.playback.proofs.write_over.Given as goal

abbrev pub invariant-loop-item : goal.invariant-loop-item
invariant-loop-item l = Come (pos 0) (known_over l.known) l.initial.table l.item l.table
