-- The bytes that the characters make stand at the buffer's front.
use Rattle.std.proofs.Common.{rules, ◌≡◌, ℕ, ◌/◌, List, length, sym, subst, arith, true}
use Rattle.ascii.specs.Line.{make_bytes}
use Rattle.ascii.specs.Promise.{bytes_made, Takes}
use Rattle.ascii.proofs.Taken.{takes_none, none_made, takes-made}
use Rattle.ascii.proofs.take_characters.Goals as goal

pub returns-then-not-right : goal.returns-then-not-right
unfolding make_bytes
returns-then-not-right c = takes_none _ (none_made c.args.characters.now (search rules))

pub returns-in_err-put_bytes : goal.returns-in_err-put_bytes
unfolding make_bytes
returns-in_err-put_bytes c = rw c.from_residual.ensures (takes_none _ (none_made c.args.characters.now (search rules)))

pub returns : goal.returns
unfolding make_bytes
returns c =
    let chars = c.args.characters.now in
    let made : make_bytes chars ≡ true = search rules in
    subst (λ (after : List ℕ). Takes (bytes_made chars) after (length chars / 2)) (sym (c.in_ok-put_bytes.ensures.stored (search rules)))
    (takes-made chars c.args.bytes.now (omega (arith, c.told-bytes)) made)
