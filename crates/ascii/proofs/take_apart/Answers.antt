-- What stands behind the last colon decides.
use Rattle.std.proofs.Common.{rules, ℕ, ◌+◌, ◌-◌, length, drop, sym, ap, ◌∙◌, arith, length-drop, take_all}
use Rattle.ascii.specs.Promise.{bytes_behind}
use Rattle.ascii.proofs.Colon.{no_colon, last_colon}
use Rattle.ascii.proofs.Taken.{takes_none, takes-by, none-taken, behind-taken}
use Rattle.ascii.proofs.take_apart.Goals as goal

pub returns-in_err-colon : goal.returns-in_err-colon
returns-in_err-colon c =
    rw c.from_residual.ensures (takes_none _ (none-taken c.args.line.now (no_colon c.args.line.now (search rules))))

pub returns : goal.returns
returns c =
    let line = c.args.line.now in
    let start = c.in_ok-colon.colon + 1 in
    let last = last_colon line c.in_ok-colon.colon (search rules) (search rules) (search rules) in
    let whole = take_all (length line - start) (drop start line) (omega (arith, length-drop start line)) in
    takes-by
    (ap bytes_behind whole ∙ ap (λ (k : ℕ). bytes_behind (drop k line)) (sym last)
    ∙ sym (behind-taken line (λ z. omega (arith, last))))
    c.take_rest.ensures
