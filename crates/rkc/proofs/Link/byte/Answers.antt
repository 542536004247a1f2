-- `Link::byte` meets its contract: what the byte asks for is performed, or a fault hands all back.
use Rattle.std.proofs.Common.{sym, refl}
use Rattle.rkc.specs.Outcome.{ByteCall, byte_fault}
use Rattle.rkc.proofs.Cases.{does-by, byte-none, received-act}
use Rattle.rkc.proofs.Limits.{act-limited}
use Rattle.rkc.proofs.Link.byte.Goals as goal

pub perform-requires : goal.perform-requires
unfolding byte_fault
perform-requires c =
    let a = c.args in
    let call : ByteCall = record { link = a.self; table = a.table.now; buffer = a.reply.now; address = a.address; structure = a.structure; time = a.time; byte = a.byte } in
    let fine = (byte-none call (sym c.in_default.ensures)).step in
    (fine.roomy, act-limited a.self fine.limits _ _ c.decide-act.ensures)

pub returns : goal.returns
unfolding byte_fault
returns c =
    let a = c.args in
    let call : ByteCall = record { link = a.self; table = a.table.now; buffer = a.reply.now; address = a.address; structure = a.structure; time = a.time; byte = a.byte } in
    does-by (received-act call c.in_default.ensures refl c.heard-c.ensures c.decide-act.ensures) c.perform.ensures
