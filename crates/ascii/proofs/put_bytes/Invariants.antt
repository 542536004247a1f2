-- The loop's invariant: the characters that are left decide, and storing their bytes gives the buffer that storing all of them gives.
use Rattle.std.proofs.Common.{◌≡◌, ◌*◌, drop}
use Rattle.std.proofs.lemmas.List.Edits.{sets}
use Rattle.ascii.specs.Hexadecimal.{all_hex, bytes_of}
use Rattle.ascii.proofs.Taken.{bytes_left}
use Rattle.ascii.proofs.put_bytes.Given as goal

abbrev pub invariant-loop-i : goal.invariant-loop-i
invariant-loop-i l = record {
  hex : all_hex (drop (2 * l.i) l.characters) ≡ all_hex l.characters;
  left : bytes_left l.characters l.bytes l.i ≡ sets l.fn.bytes 0 (bytes_of l.characters);
}
