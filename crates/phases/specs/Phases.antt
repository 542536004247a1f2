-- The phases of the RKC link, and a number that goes with EOT: 42 is given by rkc, once it has looked the identifier up. 41, 43 and 45
-- are those of the refusals that the decision names (numbers), 44 and 46 stand in rkc.
use Rattle.std.specs.Prelude.{ℕ}

abbrev pub rest : ℕ
rest = 0

-- EOT came: two digits are next, the device address
abbrev pub first_digit : ℕ
first_digit = 1

abbrev pub second_digit : ℕ
second_digit = 2

abbrev pub addressed : ℕ
addressed = 3

-- one character of an identifier came, or two of them
abbrev pub one_character : ℕ
one_character = 4

abbrev pub two_characters : ℕ
two_characters = 5

-- an item was sent
abbrev pub waiting : ℕ
waiting = 6

-- a block is open
abbrev pub text : ℕ
text = 7

abbrev pub bcc_due : ℕ
bcc_due = 8

-- a block was answered
abbrev pub answered : ℕ
answered = 9

-- the identifier of a poll is unknown
abbrev pub unknown_polled : ℕ
unknown_polled = 42
