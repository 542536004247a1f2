-- One line of Modbus ASCII: a colon, two characters for each byte of a message body and of its LRC, CR, LF.
use Rattle.std.specs.Prelude.{ℕ, suc, ◌+◌, ◌-◌, ◌/◌, ◌%◌, Bool, cond, ◌&&◌, List, [], ◌∷◌, ◌++◌, length, take, drop, ◌==◌, nat_le, slice_index}
use Rattle.numbers.specs.Numbers.{unless, first_met}
use Rattle.modbus.specs.Outcome.{Outcome}
use Rattle.call.specs.Call.{Call, answered_as}
use Rattle.ascii.specs.Hexadecimal.{hex_of, all_hex, bytes_of}

-- the numbers given back here, beside those of the call and of the message
abbrev pub wrong_line : ℕ
wrong_line = 24

abbrev pub wrong_lrc : ℕ
wrong_lrc = 25

-- the characters at both ends
abbrev pub colon : ℕ
colon = 0x3A

abbrev pub CR : ℕ
CR = 0x0D

abbrev pub LF : ℕ
LF = 0x0A

-- ---- the LRC

-- the sum of some bytes
abbrev pub sum_of : List ℕ → ℕ
sum_of [] = 0
sum_of (b ∷ bytes) = b + sum_of bytes

-- the two's complement of the byte sum with carries dropped
unfoldable pub lrc_of : List ℕ → ℕ
lrc_of bytes = (256 - sum_of bytes % 256) % 256

-- ---- a line is made

-- the line of a message body
unfoldable pub line_of : List ℕ → List ℕ
line_of body = colon ∷ hex_of (body ++ (lrc_of body ∷ [])) ++ (CR ∷ LF ∷ [])

-- ---- a line is taken apart

-- A colon always starts afresh, so all before the last one is dropped: how many characters that is, with the colon itself. It is 0
-- where there is no colon.
unfoldable pub dropped : List ℕ → ℕ
dropped [] = 0
dropped (c ∷ line) = cond (nat_le 1 (dropped line)) (suc (dropped line)) (cond (c == colon) 1 0)

-- what stands behind the last colon
abbrev pub behind_colon : List ℕ → List ℕ
behind_colon line = drop (dropped line) line

-- whether CR and LF stand at the end; one character can't be both, so there are two at least
unfoldable pub ends_in_cr_lf : List ℕ → Bool
ends_in_cr_lf rest = slice_index rest (length rest - 2) == CR && slice_index rest (length rest - 1) == LF

-- all in front of them
abbrev pub before_cr_lf : List ℕ → List ℕ
before_cr_lf rest = take (length rest - 2) rest

-- the bytes that a line has with its LRC
abbrev pub fewest : ℕ
fewest = 3

abbrev pub most : ℕ
most = 255

-- an even number of characters, for 3 to 255 bytes
abbrev pub right_number : ℕ → Bool
right_number n = n % 2 == 0 && nat_le fewest (n / 2) && nat_le (n / 2) most

-- Characters make the bytes of a line where their number is right, and all are hexadecimal.
unfoldable pub make_bytes : List ℕ → Bool
make_bytes characters = right_number (length characters) && all_hex characters

-- A line has the right form where there is a colon, CR LF stand at its end, and what stands between makes bytes.
unfoldable pub right_form : List ℕ → Bool
right_form line =
    nat_le 1 (dropped line) && ends_in_cr_lf (behind_colon line) && make_bytes (before_cr_lf (behind_colon line))

-- the bytes of a line; the message body is all but the last of them, which is the LRC
unfoldable pub bytes_in : List ℕ → List ℕ
bytes_in line = bytes_of (before_cr_lf (behind_colon line))

abbrev pub message_of : List ℕ → List ℕ
message_of bytes = take (length bytes - 1) bytes

abbrev pub lrc_in : List ℕ → ℕ
lrc_in bytes = slice_index bytes (length bytes - 1)

abbrev pub right_lrc : List ℕ → Bool
right_lrc bytes = lrc_of (message_of bytes) == lrc_in bytes

-- The line's fault: its form, then its LRC.
unfoldable pub line_fault : List ℕ → ℕ
line_fault line = first_met (unless (right_form line) wrong_line ∷ unless (right_lrc (bytes_in line)) wrong_lrc ∷ [])

-- What comes of a line: it is answered as a call that brought its fault and its body, and a reply is sent as a line.
unfoldable pub acted_on : Call → List ℕ → Outcome
acted_on call line = answered_as line_of call (line_fault line) (message_of (bytes_in line))
