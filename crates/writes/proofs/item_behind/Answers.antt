-- Past the map no item has a register.
use Rattle.std.proofs.Common.{◌≡◌, ◌+◌, ◌∙◌, sym, ap, refl, arith, Bool, true, false}
use borrow.Author.Tests.{ltb-true, ltb-false}
use lib.Dec.{ltb}
use Prim.Native.Nat.{ℕ, min}
use Rattle.items.specs.ItemList.{map_size, place_of}
use Rattle.items.proofs.Lookup.{place-past}
use Rattle.writes.proofs.item_behind.Goals as goal

held : (r : ℕ) → place_of (min r map_size) ≡ place_of r
held r = by (ltb r map_size) refl
  where
    by : (b : Bool) → ltb r map_size ≡ b → place_of (min r map_size) ≡ place_of r
    by true e = ap place_of (omega (arith, ltb-true r map_size e))
    by false e =
        let past = ltb-false r map_size e in
        place-past (min r map_size) (omega arith) ∙ sym (place-past r past)

pub returns : goal.returns
returns c =
    c.place_of.ensures ∙ ap place_of (c.min-register.ensures ∙ ap (λ (r : ℕ). min (r + c.args.i) map_size) c.from.ensures)
    ∙ held (c.args.start + c.args.i)
