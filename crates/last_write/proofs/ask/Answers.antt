-- `ask`: the address, then the item, then the trailer; what the walk back comes to is the answer else.
use Rattle.std.proofs.Common.{sym, ◌∙◌}
use Rattle.last_write.proofs.Walked.{no_address, no_item, no-trailer}
use Rattle.last_write.proofs.ask.Goals as goal

pub returns-then-not-is_address : goal.returns-then-not-is_address
returns-then-not-is_address c = no_address _ _ (sym c.is_address.ensures ∙ c.if-not-is_address.true)

pub returns-then-not-listed : goal.returns-then-not-listed
returns-then-not-listed c =
    no_item _ _ (sym c.is_address.ensures ∙ c.if-not-is_address.false) (sym c.listed.ensures ∙ c.if-not-listed.true)

pub returns-then-not-trailer_right : goal.returns-then-not-trailer_right
returns-then-not-trailer_right c =
    no-trailer _ _ (sym c.is_address.ensures ∙ c.if-not-is_address.false) (sym c.listed.ensures ∙ c.if-not-listed.false)
    (sym c.trailer_right.ensures ∙ c.if-not-trailer_right.true)
