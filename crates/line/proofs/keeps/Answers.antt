-- Structure 0 is the definition's first case, and one test serves both parities.
use Rattle.std.proofs.Common.{nat_eq}
use borrow.Author.Tests.{ne_eqb}
use lib.Count.{ones}
use Rattle.line.specs.Line.{keeps}
use Rattle.line.proofs.Parity.{even-as-asked}
use Rattle.line.proofs.keeps.Goals as goal

pub returns-then-structure-eq0 : goal.returns-then-structure-eq0
unfolding keeps
returns-then-structure-eq0 c = rw c.if-structure-eq0.true

pub returns : goal.returns
unfolding keeps
returns c =
    let s = c.args in
    simp (ne_eqb _ _ c.if-structure-eq0.false) (even-as-asked (ones s.byte) (nat_eq s.structure 1))
