-- `replies::data_reply` meets its contract: the six characters by their elements, about them the identifier, ETX and the BCC.
use Rattle.std.proofs.Common.{◌≡◌, ℕ, List, [], ◌∷◌, ◌++◌, length, get_or, ap, rules}
use Rattle.kept.proofs.Lists.{listed-from, elements}
use Rattle.items.specs.ItemList.{item_at, identifier_of}
use Rattle.line.specs.Line.{STX, ETX, bcc}
use Rattle.rkc.specs.Outcome.{data_reply}
use Rattle.rkc.proofs.replies.data_reply.Goals as goal

-- the reply about the elements of the identifier and of the six characters is the reply about those
whole : (i : ℕ) (name six : List ℕ) (sum : ℕ) → length six ≡ 6 → name ≡ identifier_of (item_at i)
    → sum ≡ bcc (get_or name 0 0 ∷ get_or name 1 0 ∷ (listed-from six 0 6 ++ (ETX ∷ [])))
    → STX ∷ get_or name 0 0 ∷ get_or name 1 0 ∷ (listed-from six 0 6 ++ (ETX ∷ sum ∷ [])) ≡ data_reply i six
unfolding data_reply
whole i name six sum h en es = rw (es, en) (ap (data_reply i) (elements six 6 h))

pub returns : goal.returns
returns c =
    let six = c.args.six in
    let h : length six ≡ 6 = search rules in
    whole c.args.i c.identifier-name.result six c.bcc.result h c.identifier-name.ensures c.bcc.ensures
