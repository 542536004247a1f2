-- `show`: what is shown is the part of the capture at the place that was looked up.
use Rattle.std.proofs.Common.{◌≡◌, ◌+◌, ◌-◌, arith, sym}
use Rattle.capture.proofs.ByNumber.{shown-part}
use Rattle.capture.proofs.show.Goals as goal

-- the part ends in the capture
pub overflow_add-to : goal.overflow_add-to
overflow_add-to c =
    let s = c.in-Ok.ensures in
    omega (arith, rw (← s.place, ← s.len) at (shown-part c.args.capture.now c.args.frame).inside)

pub slice_bounds-result-end-2 : goal.slice_bounds-result-end-2
slice_bounds-result-end-2 c =
    let s = c.in-Ok.ensures in
    omega (arith, rw (← s.place, ← s.len) at (shown-part c.args.capture.now c.args.frame).inside)

pub returns : goal.returns
returns c =
    let r = c.in-Ok.shown in
    let s = c.in-Ok.ensures in
    let long : r.place + r.len - r.place ≡ r.len = omega arith in
    record { bytes = rw (long, s.place, s.len) (sym (shown-part c.args.capture.now c.args.frame).same); stands = rw s.place }
