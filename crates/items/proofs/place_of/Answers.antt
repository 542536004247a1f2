-- `items::place_of`: the table of the map holds each register's place, and past the map that of no item.
use Rattle.items.specs.ItemList.{found_by_register, place_of}
use Rattle.items.proofs.Lookup.{held}
use Rattle.items.proofs.place_of.Goals as goal

pub returns : goal.returns
unfolding place_of found_by_register
returns c = rw c.min.ensures (held c.args.register)
