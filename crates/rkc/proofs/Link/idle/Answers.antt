-- `Link::idle` meets its contract: a fault; three seconds; another phase or too early.
use Rattle.std.proofs.Common.{◌≡◌, refl, ◌∙◌, le-leb}
use borrow.Author.Tests.{lt-leb}
use Rattle.rkc.specs.State.{used}
use Rattle.rkc.specs.Outcome.{IdleCall, idle_fault, silent, passed}
use Rattle.rkc.proofs.Cases.{steps-by, idled-fine, passed-other, passed-early, passed-late}
use Rattle.rkc.proofs.Link.idle.Goals as goal
use Rattle.rkc.proofs.Link.idle.Goals.{else-self-eq-WAITING-via-then-self-eq-WAITING+else-elapsed-ge-PATIENCE, else-self-eq-WAITING-via-else-self-eq-WAITING}

pub returns-then-elapsed-ge-PATIENCE : goal.returns-then-elapsed-ge-PATIENCE
unfolding idle_fault
returns-then-elapsed-ge-PATIENCE c =
    let a = c.args in
    let call : IdleCall = record { link = a.self; buffer = a.reply.now; structure = a.structure; time = a.time } in
    steps-by
    (idled-fine call c.in_default.ensures refl
    ∙ passed-late a.self _ _ c.if-self-eq-WAITING.true c.elapsed.ensures (le-leb _ _ c.if-elapsed-ge-PATIENCE.true))
    c.quit.ensures

pub returns : goal.returns
unfolding idle_fault
returns c =
    let a = c.args in
    let call : IdleCall = record { link = a.self; buffer = a.reply.now; structure = a.structure; time = a.time } in
    let stays : passed (used a.self) a.structure a.time ≡ silent (used a.self) =
    elim c.else-self-eq-WAITING.branch [
      | else-self-eq-WAITING-via-then-self-eq-WAITING+else-elapsed-ge-PATIENCE w ↦
          passed-early a.self _ _ w.if-self-eq-WAITING.true w.elapsed.ensures (lt-leb _ _ w.if-elapsed-ge-PATIENCE.false)
      | else-self-eq-WAITING-via-else-self-eq-WAITING w ↦ passed-other a.self _ _ w.if-self-eq-WAITING.false
    ] in
    steps-by (idled-fine call c.in_default.ensures refl ∙ stays)
    (record { back = c.silent.ensures ∙ rw c.used.ensures; sent = refl })
