-- One RTU frame: a message body with its CRC behind it.
use Rattle.std.specs.Prelude.{ℕ, ◌&&◌, List, [], ◌∷◌, leb, length}
use Rattle.numbers.specs.Numbers.{unless, first_met}
use Rattle.crc.specs.Crc.{framed, body_of, is_right}
use Rattle.modbus.specs.Outcome.{Outcome}
use Rattle.call.specs.Call.{Call, answered_as}

-- the numbers given back here, beside those of the call and of the message
abbrev pub wrong_frame_length : ℕ
wrong_frame_length = 21

abbrev pub wrong_crc : ℕ
wrong_crc = 22

-- the lengths that a frame can have
abbrev pub shortest : ℕ
shortest = 4

abbrev pub longest : ℕ
longest = 256

-- The frame's fault: its length, then its CRC.
unfoldable pub frame_fault : List ℕ → ℕ
frame_fault frame =
    first_met
    (unless (leb shortest (length frame) && leb (length frame) longest) wrong_frame_length
    ∷ unless (is_right frame) wrong_crc
    ∷ [])

-- What comes of a frame: it is answered as a call that brought its fault and its body, and a reply gets its CRC.
unfoldable pub acted_on : Call → List ℕ → Outcome
acted_on call frame = answered_as framed call (frame_fault frame) (body_of frame)
