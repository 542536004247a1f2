-- The bytes that are left, taken into the register as it is, give the result.
use Rattle.std.proofs.Common.{◌≡◌, drop}
use Rattle.crc.specs.Crc.{crc_from, crc16_of}
use Rattle.crc.proofs.crc16.Given as goal

abbrev pub invariant-loop-byte : goal.invariant-loop-byte
invariant-loop-byte l = crc_from l.crc (drop l.byte-index l.bytes) ≡ crc16_of l.bytes
