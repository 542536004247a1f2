-- The loop's invariant: spreading the bytes in front of the place gives the buffer that spreading all of them gives.
use Rattle.std.proofs.Common.{◌≡◌, ◌≤◌, take}
use Rattle.std.proofs.lemmas.List.Edits.{sets}
use Rattle.ascii.specs.Hexadecimal.{hex_of}
use Rattle.ascii.proofs.spread.Given as goal

abbrev pub invariant-loop-i : goal.invariant-loop-i
invariant-loop-i l = record {
  within : l.i ≤ l.n;
  left : sets l.buffer 1 (hex_of (take l.i l.buffer)) ≡ sets l.fn.buffer 1 (hex_of (take l.n l.fn.buffer));
}
