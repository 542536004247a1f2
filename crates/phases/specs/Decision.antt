-- The decision over phase and character. c is a byte as it was heard: 00H to 7FH a character, 80H up a line error, which is thus
-- never a digit, an identifier character or a control character.
use Rattle.std.specs.Prelude.{Bool, cond, ◌&&◌, ℕ, ◌+◌, ◌-◌, ◌/◌, ◌%◌, ltb, eqb}
use Rattle.line.specs.Line.{STX, ETX, EOT, ENQ, ACK, NAK, within, printable, is_line_error}
use Rattle.phases.specs.Phases.{rest, first_digit, second_digit, addressed, one_character, two_characters, waiting, text, bcc_due, answered}
use Rattle.numbers.specs.declared.Refusal.TheVariants.{NotBelonging, NotAwaited, ListEnded}
use Rattle.phases.specs.declared.Act.{Act}
use Rattle.phases.specs.declared.Act.TheVariants.{Go, First, Both, More, Ended, Quit, Poll, Send, Judge}

-- the characters "0" to "9"
abbrev pub is_digit : ℕ → Bool
is_digit c = within 0x30 0x39 c

-- c is the character of this digit
abbrev pub is_the_digit : ℕ → ℕ → Bool
is_the_digit digit c = is_digit c && eqb (c - 0x30) digit

-- a digit of the address is compared as it comes; anything else there: rest, silent
abbrev pub at_digit : ℕ → ℕ → ℕ → Act
at_digit digit next c = cond (is_the_digit digit c) (Go next) (Go rest)

abbrev pub at_first_digit : ℕ → ℕ → Act
at_first_digit address c = at_digit (address / 10) second_digit c

abbrev pub at_second_digit : ℕ → ℕ → Act
at_second_digit address c = at_digit (address % 10) addressed c

-- a printable character is the first of an identifier; any other byte asks for the other act
abbrev pub first_or : ℕ → Act → Act
first_or c other = cond (printable c) (First c) other

-- STX opens a block; a printable character is the first of an identifier; other bytes: rest, silent
abbrev pub at_addressed : ℕ → Act
at_addressed c = cond (eqb c STX) (Go text) (first_or c (Go rest))

-- a line error: rest, silent; any other byte that doesn't belong: EOT, rest
abbrev pub astray : ℕ → Act
astray c = cond (is_line_error c) (Go rest) (Quit NotBelonging)

-- a printable character is the second of the identifier
abbrev pub at_one_character : ℕ → ℕ → Act
at_one_character first c = cond (printable c) (Both first c) (astray c)

-- ENQ polls the identifier
abbrev pub at_two_characters : ℕ → ℕ → ℕ → Act
at_two_characters first second c = cond (eqb c ENQ) (Poll first second) (astray c)

-- ACK sends the next item of the list, after the last one EOT and rest; NAK sends the same item; a printable character is the
-- first of a new poll's identifier, since the address stays good; any other byte: EOT, rest
abbrev pub at_waiting : ℕ → ℕ → ℕ → Act
at_waiting last item c =
    cond (eqb c ACK) (cond (ltb item last) (Send (item + 1)) (Quit ListEnded))
    (cond (eqb c NAK) (Send item) (first_or c (Quit NotAwaited)))

-- all bytes but ETX (and EOT) are text
abbrev pub at_text : ℕ → Act
at_text c = cond (eqb c ETX) Ended (More c)

-- STX opens another block, else rest, silent
abbrev pub at_answered : ℕ → Act
at_answered c = cond (eqb c STX) (Go text) (Go rest)

-- each phase by its own rule; at rest all is ignored
abbrev pub by_phase : ℕ → ℕ → ℕ → ℕ → ℕ → ℕ → ℕ → Act
by_phase last phase first second item address c =
    cond (eqb phase first_digit) (at_first_digit address c)
    (cond (eqb phase second_digit) (at_second_digit address c)
    (cond (eqb phase addressed) (at_addressed c)
    (cond (eqb phase one_character) (at_one_character first c)
    (cond (eqb phase two_characters) (at_two_characters first second c)
    (cond (eqb phase waiting) (at_waiting last item c)
    (cond (eqb phase text) (at_text c)
    (cond (eqb phase answered) (at_answered c)
    (Go rest))))))))

-- where a BCC is due, any byte is the BCC, also one that looks like EOT; in each other phase EOT calls for the address
unfoldable pub decided : ℕ → ℕ → ℕ → ℕ → ℕ → ℕ → ℕ → Act
decided last phase first second item address c =
    cond (eqb phase bcc_due) (Judge c)
    (cond (eqb c EOT) (Go first_digit)
    (by_phase last phase first second item address c))
