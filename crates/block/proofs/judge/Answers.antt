-- What the range is asked of, and what is stored, is the value that was read.
use Rattle.std.proofs.Common.{◌≡◌, rules, w32, to_z, of_z}
use Rattle.block.proofs.Cases.{out, set}
use Rattle.block.proofs.judge.Goals as goal

pub returns-then-not-in_range : goal.returns-then-not-in_range
returns-then-not-in_range c =
    let value : to_z w32 (of_z w32 c.in-Ok.value) ≡ c.in-Ok.value = search rules in
    search (rules, out)

pub returns : goal.returns
returns c =
    let value : to_z w32 (of_z w32 c.in-Ok.value) ≡ c.in-Ok.value = search rules in
    search (rules, set)
