-- `accepts_frame`: a frame with a fault is not accepted.
use Rattle.std.specs.Prelude.{Ok}
use Rattle.std.proofs.Common.{◌≡◌, sym, ◌∙◌}
use Rattle.numbers.proofs.Refusals.{same-given}
use Rattle.playback.proofs.Frames.{not-accepted}
use Rattle.playback.proofs.accepts_frame.Goals as goal

pub returns-in_default : goal.returns-in_default
returns-in_default c =
    sym (not-accepted c.args.address c.args.frame.now (λ z.
    let right : c.frame_fault.result ≡ Ok tt = same-given (c.frame_fault.ensures ∙ z) in cc))
