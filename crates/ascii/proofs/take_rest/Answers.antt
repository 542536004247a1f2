-- What stands in front of CR LF decides.
use Rattle.std.proofs.Common.{rules, ◌≡◌, true, false, length, sym, ap, ◌∙◌, arith}
use Rattle.ascii.specs.Line.{ends_in_cr_lf}
use Rattle.ascii.specs.Promise.{bytes_made}
use Rattle.ascii.proofs.Taken.{too_short, two_decide, takes_none, takes-by, none-behind, made-behind}
use Rattle.ascii.proofs.take_rest.Goals as goal

pub returns-in_err-characters : goal.returns-in_err-characters
returns-in_err-characters c =
    rw c.from_residual.ensures
    (takes_none _ (none-behind c.args.rest.now (too_short c.args.rest.now c.in_err-characters.ensures.cases)))

pub returns-then-not-right : goal.returns-then-not-right
returns-then-not-right c =
    let cases = c.in_ok-characters.ensures.cases in
    let decided = two_decide c.args.rest.now c.in_ok-characters.end.now (omega arith) cases.1 in
    takes_none _ (none-behind c.args.rest.now (sym decided ∙ search rules))

pub returns : goal.returns
returns c =
    let cases = c.in_ok-characters.ensures.cases in
    let decided = two_decide c.args.rest.now c.in_ok-characters.end.now (omega arith) cases.1 in
    takes-by (ap bytes_made cases.0 ∙ sym (made-behind c.args.rest.now (sym decided ∙ search rules))) c.take_characters.ensures
