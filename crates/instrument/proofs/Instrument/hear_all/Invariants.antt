-- What the last byte came to stands in an outcome, which with the bytes that are left comes to the whole.
use Rattle.std.proofs.Common.{◌≡◌, drop}
use Rattle.rkc.specs.Outcome.{Outcome}
use Rattle.instrument.specs.Session.{heard, told, Hears}
use Rattle.instrument.proofs.Instrument.hear_all.Given as goal

abbrev pub invariant-loop-byte : goal.invariant-loop-byte
invariant-loop-byte l = (o : Outcome) × Hears o l.last l.self × (heard o (drop l.byte-index l.bytes) ≡ told l.fn.self l.bytes)
