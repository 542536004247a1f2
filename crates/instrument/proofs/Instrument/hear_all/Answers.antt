-- The byte at the loop's place comes next, and at its end none is left.
use Rattle.std.proofs.Common.{◌≤◌, length, get_or, refl, sym, ◌∙◌, arith}
use lib.ListN.{drop_of_length-le}
use Rattle.rkc.specs.Outcome.{received}
use Rattle.instrument.specs.Session.{untold, call_of, lent, heard}
use Rattle.instrument.proofs.Heard.{heard-next, hears-next}
use Rattle.instrument.proofs.Instrument.hear_all.Goals as goal

pub loop-byte-init : goal.loop-byte-init
loop-byte-init c = (untold c.args.self.now, record { back = refl; left = refl }, refl)

pub loop-byte-preserved : goal.loop-byte-preserved
loop-byte-preserved c =
    let h = c.loop-byte.invariant in
    let bytes = c.args.bytes.now in
    let k = c.loop-byte.byte-index in
    let next = heard-next h.0 bytes k (omega arith) in (
      received (call_of c.loop-byte.self lent (get_or bytes k 0)),
      hears-next c.loop-byte.self lent (get_or bytes k 0) c.hear-last.ensures.leads c.hear-last.ensures.link,
      rw h.1.left (sym next ∙ h.2),
    )

pub returns : goal.returns
unfolding heard
returns c =
    let h = c.loop-byte.invariant in
    let end : length c.args.bytes.now ≤ c.loop-byte.byte-index = omega arith in
    rw (← (rw drop_of_length-le at h.2)) h.1
