-- What the body of a message asks for by its two words, and the fault that a read and a loopback meet. Those of a write are in `writes`.
use Rattle.std.specs.Prelude.{ℕ, ◌+◌, ◌*◌, Bool, ◌&&◌, List, [], ◌∷◌, eqb, leb, get_or, length}
use Rattle.numbers.specs.Numbers.{unless, first_met}
use Rattle.items.specs.ItemList.{map_size}
use Rattle.registers.specs.Register.{word}

-- the numbers given back here, beside `none`
abbrev pub wrong_register : ℕ
wrong_register = 32

abbrev pub wrong_data : ℕ
wrong_data = 33

-- the body of 03H, 06H and 08H has this length, its frame two more
abbrev pub body_length : ℕ
body_length = 6

abbrev pub right_length : List ℕ → Bool
right_length body = eqb (length body) body_length

-- the two words behind the function: a register and a quantity or a value, or a test code and data
abbrev pub first_word : List ℕ → ℕ
first_word body = word (get_or body 2 0) (get_or body 3 0)

abbrev pub second_word : List ℕ → ℕ
second_word body = word (get_or body 4 0) (get_or body 5 0)

-- ---- 03H: a register to start from and a quantity

-- the most registers that one message reads
abbrev pub most_registers : ℕ
most_registers = 125

abbrev pub good_quantity : ℕ → Bool
good_quantity quantity = leb 1 quantity && leb quantity most_registers

abbrev pub in_map : ℕ → ℕ → Bool
in_map start quantity = leb (start + quantity) map_size

-- the length, then the quantity, then the span
unfoldable pub read_fault : List ℕ → ℕ
read_fault body =
    first_met
    (unless (right_length body) wrong_data
    ∷ unless (good_quantity (second_word body)) wrong_data
    ∷ unless (in_map (first_word body) (second_word body)) wrong_register
    ∷ [])

-- ---- 08H: a test code and data

-- the length, then the test code
unfoldable pub loopback_fault : List ℕ → ℕ
loopback_fault body =
    first_met
    (unless (right_length body) wrong_data
    ∷ unless (eqb (first_word body) 0) wrong_data
    ∷ [])

-- ---- 10H: a register to start from, a quantity, a byte count, and the values of the registers

-- the values stand behind the byte count, which stands behind the quantity
abbrev pub count_place : ℕ
count_place = 6

abbrev pub data_place : ℕ
data_place = 7

abbrev pub byte_count : List ℕ → ℕ
byte_count body = get_or body count_place 0

-- the most registers that one message writes
abbrev pub most_written : ℕ
most_written = 123

-- the form of a request: the length is seven and the byte count, so that a body which is too short to have one is wrong; 1 to 123
-- registers are written; the byte count is twice their quantity
unfoldable pub right_counts : List ℕ → Bool
right_counts body =
    eqb (length body) (data_place + byte_count body) && leb 1 (second_word body) && leb (second_word body) most_written
    && eqb (byte_count body) (2 * second_word body)
