-- `settle_all`: nothing is known at first.
use Rattle.std.specs.Prelude.{Option, None, ℤ}
use Rattle.std.proofs.Common.{ap, ◌∙◌}
use Rattle.std.proofs.Math.ListN.{replicate, get_or-replicate}
use Rattle.items.specs.ItemList.{items}
use Rattle.capture.specs.declared.Back.{Back}
use Rattle.playback.proofs.Walked.{walk-starts}
use Rattle.playback.proofs.settle_all.Goals as goal

pub loop-end-init : goal.loop-end-init
loop-end-init c =
    let begun = c.into_iter-end-iterator.ensures.into_iter_gives in
    walk-starts c.args.address c.args.capture.now {known = replicate {A = Option ℤ} items None} c.requires
    (ap (λ (walk : Back). walk.capture.now) begun)
    (ap (λ (walk : Back). walk.end) begun ∙ c.trailer_begins.ensures)
    (λ i h. get_or-replicate items i None None h)
