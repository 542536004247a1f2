-- Every act that a character asks for, phase by phase, so that a claim about what is asked for is shown of each kind of act.
-- Assumes nothing.
use mathlib.Core.Path.{◌≡◌, refl}
use mathlib.Core.Bool.{Bool, true, false}
use Prim.Native.Nat.{ℕ, ◌/◌, ◌%◌}
use borrow.Author.Tests.{eqb-true}
use lib.Dec.{eqb, ltb}
use Rattle.numbers.proofs.Tests.{chosen}
use Rattle.line.specs.Line.{STX, ETX, EOT, ENQ, ACK, NAK, printable, is_line_error}
use Rattle.phases.specs.Phases.{first_digit, second_digit, addressed, one_character, two_characters, waiting, text, bcc_due, answered}
use Rattle.numbers.specs.declared.Refusal.TheVariants.{NotBelonging, NotAwaited, ListEnded}
use Rattle.phases.specs.Decision.{is_the_digit, astray, decided}
use Rattle.phases.specs.declared.Act.{Act}
use Rattle.phases.specs.declared.Act.TheVariants.{Go, First, Both, More, Ended, Quit, Poll, Send, Judge}

module _ (P : Act → Type 0) (go : (phase : ℕ) → P (Go phase)) (first : (a : ℕ) → P (First a)) (both : (a b : ℕ) → P (Both a b))
    (poll : (a b : ℕ) → P (Poll a b)) (send : (item : ℕ) → P (Send item))
    (strayed : P (Quit NotBelonging)) (unawaited : P (Quit NotAwaited)) (end : P (Quit ListEnded)) where
  astray-act : (c : ℕ) → P (astray c)
  astray-act c = chosen P (is_line_error c) (λ _. go _) (λ _. strayed)

  module _ (last phase a b item address c : ℕ) where
    -- outside a block
    pub outside-act : eqb phase bcc_due ≡ false → eqb phase text ≡ false → P (decided last phase a b item address c)
    unfolding decided
    outside-act p q =
        simp (p, q)
        (chosen P (eqb c EOT) (λ _. go _)
        (λ _. chosen P (eqb phase first_digit) (λ _. chosen P (is_the_digit (address / 10) c) (λ _. go _) (λ _. go _))
        (λ _. chosen P (eqb phase second_digit) (λ _. chosen P (is_the_digit (address % 10) c) (λ _. go _) (λ _. go _))
        (λ _. chosen P (eqb phase addressed) (λ _. chosen P (eqb c STX) (λ _. go _) (λ _. chosen P (printable c) (λ _. first _) (λ _. go _)))
        (λ _. chosen P (eqb phase one_character) (λ _. chosen P (printable c) (λ _. both _ _) (λ _. astray-act c))
        (λ _. chosen P (eqb phase two_characters) (λ _. chosen P (eqb c ENQ) (λ _. poll _ _) (λ _. astray-act c))
        (λ _. chosen P (eqb phase waiting)
        (λ _. chosen P (eqb c ACK) (λ _. chosen P (ltb item last) (λ _. send _) (λ _. end))
        (λ _. chosen P (eqb c NAK) (λ _. send _) (λ _. chosen P (printable c) (λ _. first _) (λ _. unawaited))))
        (λ _. chosen P (eqb phase answered) (λ _. chosen P (eqb c STX) (λ _. go _) (λ _. go _)) (λ _. go _)))))))))

    -- and in one
    pub every-act : ((c : ℕ) → P (More c)) → P Ended → ((c : ℕ) → P (Judge c)) → P (decided last phase a b item address c)
    unfolding decided
    every-act more ended judge = by (eqb phase bcc_due) (eqb phase text) refl refl
      where
        by : (x y : Bool) → eqb phase bcc_due ≡ x → eqb phase text ≡ y → P (decided last phase a b item address c)
        by true y p q = rw p (judge c)
        by false true p q = rw (eqb-true phase text q) (chosen P (eqb c EOT) (λ _. go _) (λ _. chosen P (eqb c ETX) (λ _. ended) (λ _. more c)))
        by false false p q = outside-act p q
