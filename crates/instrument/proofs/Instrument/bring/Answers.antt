-- Each part of the block comes to the instrument that the one before it left.
use Rattle.instrument.specs.Session.{brought}
use Rattle.instrument.proofs.Instrument.bring.Goals as goal

pub returns : goal.returns
unfolding brought
returns c =
    rw (c.bcc.ensures, c.bcc-2.ensures, c.hear_all-3.ensures.left, c.hear_all-2.ensures.left, c.hear_all.ensures.left, c.identifier-name.ensures) at
    c.hear_all-4.ensures
