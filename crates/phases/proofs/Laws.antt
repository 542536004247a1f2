-- Where the state is within its limits, so is the one that an act leads to: phase by phase, by the tests that choose the act.
-- Assumes nothing.
use mathlib.Core.Path.{◌≡◌, refl}
use mathlib.Core.Bool.{false}
use Prim.Native.Nat.{ℕ, ◌<◌, ◌/◌, ◌%◌}
use native.Mathlib.Omega.{arith}
use borrow.Author.Tests.{eqb-true, eqb-false, ltb-true}
use lib.Dec.{T, leb, ltb, eqb, lit≤}
use Rattle.numbers.proofs.Tests.{chosen}
use Rattle.line.specs.Line.{STX, ETX, EOT, ENQ, ACK, NAK, top_bit, printable, is_line_error}
use Rattle.line.proofs.Laws.{printable-small}
use Rattle.phases.specs.Phases.{rest, first_digit, second_digit, addressed, one_character, two_characters, waiting, text, bcc_due, answered}
use Rattle.phases.specs.Decision.{is_the_digit, at_digit, at_addressed, astray, at_one_character, at_two_characters, at_waiting, at_text, at_answered, decided}
use Rattle.phases.specs.Limits.{Listed, Limited}
use Rattle.phases.specs.declared.Act.TheVariants.{Go}

module _ (last : ℕ) where
  -- to a phase whose number is written out
  to : (phase : ℕ) → T (leb phase answered) → eqb phase waiting ≡ false → Limited last (Go phase)
  to phase known plain = (lit≤ known, eqb-false phase waiting plain)

  digit-limited : (digit next c : ℕ) → Limited last (Go next) → Limited last (at_digit digit next c)
  digit-limited digit next c h = chosen (Limited last) (is_the_digit digit c) (λ _. h) (λ _. to rest tt refl)

  addressed-limited : (c : ℕ) → Limited last (at_addressed c)
  addressed-limited c =
      chosen (Limited last) (eqb c STX) (λ _. to text tt refl)
      (λ _. chosen (Limited last) (printable c) (printable-small c) (λ _. to rest tt refl))

  astray-limited : (c : ℕ) → Limited last (astray c)
  astray-limited c = chosen (Limited last) (is_line_error c) (λ _. to rest tt refl) (λ _. tt)

  one-character-limited : (first c : ℕ) → first < top_bit → Limited last (at_one_character first c)
  one-character-limited first c h = chosen (Limited last) (printable c) (λ e. (h, printable-small c e)) (λ _. astray-limited c)

  two-characters-limited : (first second c : ℕ) → Limited last (at_two_characters first second c)
  two-characters-limited first second c = chosen (Limited last) (eqb c ENQ) (λ _. tt) (λ _. astray-limited c)

  waiting-limited : (item c : ℕ) → Listed last item → Limited last (at_waiting last item c)
  waiting-limited item c h =
      chosen (Limited last) (eqb c ACK)
      (λ _. chosen (Limited last) (ltb item last) (λ e. let below = ltb-true item last e in omega arith) (λ _. tt))
      (λ _. chosen (Limited last) (eqb c NAK) (λ _. h)
      (λ _. chosen (Limited last) (printable c) (printable-small c) (λ _. tt)))

  text-limited : (c : ℕ) → Limited last (at_text c)
  text-limited c = chosen (Limited last) (eqb c ETX) (λ _. tt) (λ _. tt)

  answered-limited : (c : ℕ) → Limited last (at_answered c)
  answered-limited c = chosen (Limited last) (eqb c STX) (λ _. to text tt refl) (λ _. to rest tt refl)

  -- of a state's limits this needs two: the character that one identifier character has, and the item that waiting has
  pub decided-limited : (phase first second item address c : ℕ) → (phase ≡ one_character → first < top_bit) → (phase ≡ waiting → Listed last item)
      → Limited last (decided last phase first second item address c)
  unfolding decided
  decided-limited phase first second item address c small listed =
      chosen (Limited last) (eqb phase bcc_due) (λ _. tt)
      (λ _. chosen (Limited last) (eqb c EOT) (λ _. to first_digit tt refl)
      (λ _. chosen (Limited last) (eqb phase first_digit) (λ _. digit-limited (address / 10) second_digit c (to second_digit tt refl))
      (λ _. chosen (Limited last) (eqb phase second_digit) (λ _. digit-limited (address % 10) addressed c (to addressed tt refl))
      (λ _. chosen (Limited last) (eqb phase addressed) (λ _. addressed-limited c)
      (λ _. chosen (Limited last) (eqb phase one_character) (λ e. one-character-limited first c (small (eqb-true phase one_character e)))
      (λ _. chosen (Limited last) (eqb phase two_characters) (λ _. two-characters-limited first second c)
      (λ _. chosen (Limited last) (eqb phase waiting) (λ e. waiting-limited item c (listed (eqb-true phase waiting e)))
      (λ _. chosen (Limited last) (eqb phase text) (λ _. text-limited c)
      (λ _. chosen (Limited last) (eqb phase answered) (λ _. answered-limited c)
      (λ _. to rest tt refl))))))))))
