-- `table::all_in_range`: the chain folds the turns over the columns.
use Rattle.std.proofs.Common.{true, rules, ◌∙◌}
use Rattle.std.proofs.lemmas.Iterator.{YieldsList-from_slice, YieldsList-from_zip}
use Rattle.std.proofs.lemmas.Iterator.Consumers.{fold_from_yields_List}
use Rattle.items.specs.declared.TheConstants.{LOW, HIGH}
use Rattle.table.proofs.Turns.{turn, columns_checked}
use Rattle.table.proofs.all_in_range.Goals as goal

pub returns : goal.returns
returns c =
    fold_from_yields_List _ turn true _ c.fold.ensures.ran
    (YieldsList-from_zip (YieldsList-from_zip (YieldsList-from_slice c.args.table.now (cc)) (YieldsList-from_slice LOW (cc)))
    (YieldsList-from_slice HIGH (cc)))
    (λ a x b q k. search rules)
    ∙ columns_checked c.args.table.now c.requires
