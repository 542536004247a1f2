-- No bytes, a wrong LRC, or none of both.
use Rattle.std.proofs.Common.{◌≡◌, ℕ, List, [], ◌∷◌, length, sym, refl, ap, ◌∙◌, arith, eq-eqb, ne_eqb}
use Rattle.ascii.specs.Line.{wrong_line, lrc_of}
use Rattle.ascii.specs.Promise.{bytes_fault}
use Rattle.ascii.proofs.Faults.{sent-fault}
use Rattle.ascii.proofs.bytes_fault.Goals as goal

no_bytes : (bytes : List ℕ) → length bytes ≡ 0 → wrong_line ≡ bytes_fault bytes
unfolding bytes_fault
no_bytes [] e = refl
no_bytes (b ∷ bytes) e = absurd (omega arith)

pub returns-in_default : goal.returns-in_default
returns-in_default c = no_bytes _ c.in_default.ensures.cases

pub returns-then-lrc-check : goal.returns-then-lrc-check
returns-then-lrc-check c =
    sym
    (ap bytes_fault c.in-Some.ensures.cases.0 ∙ sent-fault c.in-Some.body.now c.in-Some.check.now
    ∙ rw (eq-eqb (lrc_of c.in-Some.body.now) c.in-Some.check.now (sym c.lrc.ensures ∙ c.if-lrc-check.true)))

pub returns-else-lrc-check : goal.returns-else-lrc-check
returns-else-lrc-check c =
    sym
    (ap bytes_fault c.in-Some.ensures.cases.0 ∙ sent-fault c.in-Some.body.now c.in-Some.check.now
    ∙ rw (ne_eqb (lrc_of c.in-Some.body.now) c.in-Some.check.now (λ z. c.if-lrc-check.false (c.lrc.ensures ∙ z))))
