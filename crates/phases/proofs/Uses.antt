-- Each phase looks at what it uses of a state, and at nothing else: one character at its own, two at both, waiting at the item.
-- Assumes nothing.
use mathlib.Core.Path.{◌≡◌, refl}
use mathlib.Core.Bool.{false}
use Prim.Native.Nat.{ℕ}
use lib.Dec.{eqb}
use Rattle.phases.specs.Phases.{one_character, two_characters, waiting}
use Rattle.phases.specs.Decision.{decided}

module _ (last a b i b' i' address c : ℕ) where
  pub decided-one : decided last one_character a b i address c ≡ decided last one_character a b' i' address c
  unfolding decided
  decided-one = refl

  pub decided-two : decided last two_characters a b i address c ≡ decided last two_characters a b i' address c
  unfolding decided
  decided-two = refl

  pub decided-waiting : decided last waiting a b i address c ≡ decided last waiting b' i' i address c
  unfolding decided
  decided-waiting = refl

-- other phases look at none of them
pub decided-other : (last phase a b i a' b' i' address c : ℕ) → eqb phase one_character ≡ false → eqb phase two_characters ≡ false → eqb phase waiting ≡ false
    → decided last phase a b i address c ≡ decided last phase a' b' i' address c
unfolding decided
decided-other last phase a b i a' b' i' address c p q r = simp (p, q, r)
