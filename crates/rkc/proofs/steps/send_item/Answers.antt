-- `steps::send_item` meets its contract: the number text fits six characters, or EOT is sent.
use Rattle.std.proofs.Common.{◌≡◌, ◌∙◌}
use Rattle.std.proofs.lemmas.List.{length-map}
use Rattle.sign.proofs.Laws.{same}
use Rattle.text.specs.Numbers.{width}
use Rattle.text.specs.Writing.{written_as}
use Rattle.rkc.specs.Outcome.{item_text}
use Rattle.rkc.proofs.Cases.{steps-by, item-fits, item-too-long}
use Rattle.rkc.proofs.steps.send_item.Goals as goal

pub returns : goal.returns
returns c =
    let text-is : written_as width c.write.result ≡ item_text c.args.table.now c.args.i =
    c.write.ensures ∙ rw (c.decimals.ensures, c.xu.ensures, same c.answer-value.result c.answer-value.type_inv ∙ c.answer-value.ensures) in
    steps-by (item-fits _ _ _ _ c.write.result text-is c.in-Ok.is)
    (record {
      back = simp (c.waiting_on.ensures, c.put-len.ensures.0, c.data_reply-chars.ensures, length-map);
      sent = c.put-len.ensures.1 ∙ rw c.data_reply-chars.ensures;
    })

pub returns-in_default : goal.returns-in_default
returns-in_default c =
    let text-is : written_as width c.write.result ≡ item_text c.args.table.now c.args.i =
    c.write.ensures ∙ rw (c.decimals.ensures, c.xu.ensures, same c.answer-value.result c.answer-value.type_inv ∙ c.answer-value.ensures) in
    steps-by (item-too-long _ _ _ _ c.write.result text-is c.in_default.not-Ok) c.quit.ensures
