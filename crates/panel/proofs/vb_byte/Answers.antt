-- `panel::vb_byte`: what the link's step hands back can be held.
use Rattle.std.proofs.Common.{refl}
use Rattle.panel.proofs.Holding.{byte-holdable}
use Rattle.panel.proofs.vb_byte.Goals as goal

pub hold-requires : goal.hold-requires
hold-requires c =
    let a = c.args in
    byte-holdable _
    (λ l. record { link = l; table = a.table.now; buffer = a.reply.now; address = a.address; structure = a.structure; time = a.time; byte = a.byte })
    refl c.unpack-link.ensures c.byte-stepped.ensures
