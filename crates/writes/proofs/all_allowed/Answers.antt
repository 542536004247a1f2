-- The walk makes the test of each write.
use Rattle.std.proofs.Common.{rules, refl}
use borrow.Author.Tests.{tests}
use Rattle.writes.specs.Writes.{allowed}
use Rattle.writes.proofs.Data.{each-checked}
use Rattle.writes.proofs.all_allowed.Goals as goal

pub returns : goal.returns
returns c = each-checked allowed _ _ c.all.new.self _ _ refl c.all.ensures.ran (λ x b q k. search (rules, tests))
