-- `panel::vb_idle`: what the link's step hands back can be held.
use Rattle.std.proofs.Common.{refl}
use Rattle.panel.proofs.Holding.{idle-holdable}
use Rattle.panel.proofs.vb_idle.Goals as goal

pub hold-requires : goal.hold-requires
hold-requires c =
    let a = c.args in
    idle-holdable _ (λ l. record { link = l; buffer = a.reply.now; structure = a.structure; time = a.time })
    refl c.unpack-link.ensures c.idle-stepped.ensures
