-- The loop's invariant: the sum so far with that of the bytes that are left is the sum of all, carries dropped.
use Rattle.std.proofs.Common.{◌≡◌, ◌+◌, ◌%◌, ◌<◌, drop}
use Rattle.ascii.specs.Line.{sum_of}
use Rattle.ascii.proofs.lrc.Given as goal

abbrev pub invariant-loop-byte : goal.invariant-loop-byte
invariant-loop-byte l = record {
  small : l.sum < 256;
  left : (l.sum + sum_of (drop l.byte-index l.bytes)) % 256 ≡ sum_of l.bytes % 256;
}
