-- An item of a good table is always sent: its answer fits six characters at each XU, so that 46 is not met.
-- Assumes nothing.
use mathlib.Core.Path.{◌≡◌, refl}
use mathlib.Core.Bool.{true}
use mathlib.Core.List.{List}
use Prim.Native.Nat.{ℕ, suc, ◌<◌, ◌≤◌}
use native.Mathlib.Omega.{arith}
use lib.IntN.{ℤ}
use lib.Signed.{le_z}
use Rattle.numbers.specs.Numbers.{none}
use Rattle.numbers.proofs.Tests.{both}
use Rattle.items.specs.ItemList.{Item, items, item_at, decimals_of, in_range}
use Rattle.items.proofs.Lists.{passes, passes_at}
use Rattle.table.specs.Table.{entry, good_table, answered, xu_of}
use Rattle.table.proofs.Laws.{good-entry}
use Rattle.table.proofs.Decimals.{few-xu}
use Rattle.text.specs.Numbers.{width, most_decimals}
use Rattle.text.specs.Writing.{fits}
use Rattle.text.proofs.Limits.{between-fits}
use Rattle.text.proofs.Texts.{fitting}
use Rattle.block.proofs.Laws.{few-decimals}
use Rattle.rkc.specs.Outcome.{item_sent}

module _ (i : ℕ) (h : i < items) where
  module _ (xu : ℕ) (few : xu ≤ most_decimals) where
    abbrev Fits : ℤ → Type 0
    Fits v = fits width (decimals_of xu i) v ≡ true

    -- a number of each line of the list, by a test that the whole list passes at each XU
    line-fits : (f : Item → ℤ)
        → passes (λ (x : ℕ). passes (λ (k : ℕ). fits width (decimals_of x k) (f (item_at k))) items) (suc most_decimals) ≡ true → Fits (f (item_at i))
    line-fits f e =
        passes_at (λ (k : ℕ). fits width (decimals_of xu k) (f (item_at k))) items i
        (passes_at (λ (x : ℕ). passes (λ (k : ℕ). fits width (decimals_of x k) (f (item_at k))) items) (suc most_decimals) xu e (omega arith)) h

    pub entry-fits : (t : List ℤ) → good_table t ≡ true → Fits (entry t i)
    unfolding in_range decimals_of fits
    entry-fits t g =
        let r = both (le_z (item_at i).low (entry t i)) (le_z (entry t i) (item_at i).high) (good-entry t i g h) in
        between-fits width (decimals_of xu i) (item_at i).low (item_at i).high (entry t i) r.0 r.1 (line-fits (λ x. x.low) refl) (line-fits (λ x. x.high) refl)

  pub always-sent : (structure time : ℕ) (t : List ℤ) → good_table t ≡ true → (item_sent structure time t i).number ≡ none
  unfolding item_sent answered
  always-sent structure time t g =
      rw (fitting width (decimals_of (xu_of t) i) (entry t i) (few-decimals (xu_of t) i (few-xu t)) (entry-fits (xu_of t) (few-xu t) t g))
