-- A poll by its identifier: a printable character begins it while waiting, just as right after the address; another one is the
-- second; ENQ ends it.
-- Assumes nothing.
use mathlib.Core.Path.{◌≡◌}
use mathlib.Core.Bool.{true, false}
use Prim.Native.Nat.{ℕ, ◌<◌}
use native.Mathlib.Omega.{arith}
use borrow.Author.Tests.{ne_eqb}
use lib.Dec.{eqb, lit<}
use Rattle.line.specs.Line.{STX, EOT, ENQ, ACK, NAK, printable}
use Rattle.line.proofs.Laws.{within-true}
use Rattle.phases.specs.Phases.{addressed, one_character, two_characters, waiting}
use Rattle.phases.specs.Decision.{decided}
use Rattle.phases.specs.declared.Act.TheVariants.{First, Both, Poll}

-- a printable character is no control character
no-control : (c k : ℕ) → printable c ≡ true → k < 0x20 → eqb c k ≡ false
no-control c k e h = let range = within-true 0x20 0x7E c e in ne_eqb c k (λ same. omega (arith, same))

module _ (last a b item address : ℕ) where
  module _ (c : ℕ) (e : printable c ≡ true) where
    pub first-waiting : decided last waiting a b item address c ≡ First c
    unfolding decided
    first-waiting = simp (no-control c EOT e (lit< tt), no-control c ACK e (lit< tt), no-control c NAK e (lit< tt), e)

    pub first-addressed : decided last addressed a b item address c ≡ First c
    unfolding decided
    first-addressed = simp (no-control c EOT e (lit< tt), no-control c STX e (lit< tt), e)

    pub second-character : decided last one_character a b item address c ≡ Both a c
    unfolding decided
    second-character = simp (no-control c EOT e (lit< tt), e)

  pub enquiry : (c : ℕ) → c ≡ ENQ → decided last two_characters a b item address c ≡ Poll a b
  unfolding decided
  enquiry c e = rw e
