-- `look_up`: each way out is one of the rules of a frame that is shown.
use Rattle.std.proofs.Common.{◌≡◌, arith, sym, ◌∙◌}
use Rattle.std.proofs.lemmas.Result.{err_from_is_err_and}
use Rattle.numbers.specs.declared.Refusal.TheVariants.{NoSuchFrame}
use Rattle.numbers.proofs.Refusals.{refusal-met}
use Rattle.capture.specs.Show.{no_such_frame, show_number}
use Rattle.capture.proofs.ByNumber.{bad-number, below-first, above-last, shows-refused, shows-frame}
use Rattle.capture.proofs.look_up.Goals as goal
use Rattle.capture.proofs.look_up.Goals.{then-frame-eq0-via-then-frame-eq0, then-frame-eq0-via-else-frame-eq0+then-count-frame}

pub returns-in_err-fault : goal.returns-in_err-fault
returns-in_err-fault c =
    let refusal = c.in_err-fault.field-0.0 in
    let p = err_from_is_err_and c.from_residual.result c.from_residual.ensures.1 in
    let bad = bad-number c.args.capture.now c.args.frame (λ z. refusal-met refusal (c.in_err-fault.ensures ∙ z)) in
    rw (p.1, p.2) (shows-refused c.args.capture.now c.args.frame refusal (c.in_err-fault.ensures ∙ sym bad))

pub returns-then-frame-eq0 : goal.returns-then-frame-eq0
returns-then-frame-eq0 c =
    let fine = sym c.in_ok-fault.ensures in
    let number : show_number c.args.capture.now c.args.frame ≡ no_such_frame =
    elim c.then-frame-eq0.branch [
      | then-frame-eq0-via-then-frame-eq0 w ↦ below-first c.args.capture.now c.args.frame fine (omega arith)
      | then-frame-eq0-via-else-frame-eq0+then-count-frame w ↦
          above-last c.args.capture.now c.args.frame fine (omega arith) (omega (arith, w.count.ensures))
    ] in
    shows-refused c.args.capture.now c.args.frame NoSuchFrame (sym number)

pub returns : goal.returns
returns c =
    rw (c.size.ensures, c.begins.ensures)
    (shows-frame c.args.capture.now c.args.frame (sym c.in_ok-fault.ensures) (omega arith) (omega (arith, c.count.ensures)) c.end_of-end.ensures)
