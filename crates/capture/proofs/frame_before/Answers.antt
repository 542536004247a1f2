-- `frame_before`: a part between two places that are cut off at the end is the part as it is defined.
use Rattle.std.proofs.Common.{◌≡◌, ◌+◌, length, take, arith, sym, ◌∙◌}
use Rattle.std.proofs.lemmas.List.{length-take}
use Rattle.capture.specs.Format.{size, begins, frame_before}
use Rattle.capture.proofs.Parts.{size_small, part_cut}
use Rattle.capture.proofs.frame_before.Goals as goal

pub overflow_add-begin : goal.overflow_add-begin
unfolding begins
overflow_add-begin c = omega (arith, size_small c.args.capture.now c.type_inv.capture c.args.end)

pub returns : goal.returns
unfolding frame_before
returns c =
    let capture = c.args.capture.now in
    let from : c.min-from.result ≡ length (take (begins capture c.args.end) capture) =
    c.min-from.ensures ∙ rw c.begins-begin.ensures (sym (length-take (begins capture c.args.end) capture)) in
    let to : c.min-to.result ≡ length (take (begins capture c.args.end + size capture c.args.end) capture) =
    c.min-to.ensures
    ∙ rw (c.begins-begin.ensures, c.size.ensures) (sym (length-take (begins capture c.args.end + size capture c.args.end) capture)) in
    record {
      bytes = rw (from, to) (part_cut capture (begins capture c.args.end) (size capture c.args.end));
      stands = rw from;
    }
