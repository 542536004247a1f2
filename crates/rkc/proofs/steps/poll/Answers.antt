-- `steps::poll` sends an item of the list: what was found has a place in it.
use Rattle.std.proofs.Common.{sym, ◌∙◌, rules}
use Rattle.items.proofs.Lookup.{found-place}
use Rattle.rkc.proofs.steps.poll.Goals as goal

pub send_item-requires : goal.send_item-requires
send_item-requires c = (search rules, (found-place _ _ _ (sym c.find.ensures ∙ c.in-Some.is)).0)
