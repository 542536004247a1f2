-- The list as the code has it: a row for each item, with the decimals that XU gives left out.
use Rattle.std.specs.Prelude.{ℕ, Option, Some, None, cond, eqb, [], ◌∷◌}
use Rattle.items.specs.ItemList.{Item, by_xu}
use Rattle.items.specs.declared.Item as declared

-- the decimals, where XU does not give them
abbrev pub fixed_decimals : ℕ → Option ℕ
fixed_decimals d = cond (eqb d by_xu) None (Some d)

-- what the list says of an item, without its register
abbrev pub row : Item → declared.Item
row x = record { name = x.first ∷ x.second ∷ []; writable = x.writable; decimals = fixed_decimals x.decimals; low = x.low; high = x.high; start = x.start }
