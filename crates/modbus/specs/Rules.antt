-- The rules of Modbus for a message body: address, function, data, without the check bytes that a line adds. The faults of each
-- function are in `registers` and, of those that write, in `writes`.
use Rattle.std.specs.Prelude.{ℕ, ◌*◌, Bool, cond, ◌&&◌, List, ◌∷◌, eqb, leb, ℤ, length, take}
use Rattle.numbers.specs.Numbers.{unless, unless_met, short_buffer, least_buffer}
use Rattle.registers.specs.Register.{registers_from}
use Rattle.registers.specs.Faults.{first_word, second_word, read_fault, count_place, data_place, loopback_fault}
use Rattle.writes.specs.Writes.{stored_all}
use Rattle.writes.specs.Requests.{writes_from, write_fault, value_place, several_fault}
use Rattle.modbus.specs.Outcome.{Outcome, other_address, unknown_function, silent, done, exception}
use Rattle.modbus.specs.Outcome.{head_length, address_of, function_of}

-- the functions
abbrev pub read_registers : ℕ
read_registers = 0x03

abbrev pub write_register : ℕ
write_register = 0x06

abbrev pub loopback : ℕ
loopback = 0x08

abbrev pub write_several : ℕ
write_several = 0x10

-- ---- 03H: a register to start from and a quantity

-- address, function, byte count, registers
unfoldable pub read_reply : List ℤ → List ℕ → List ℕ
read_reply table body =
    address_of body ∷ function_of body ∷ 2 * second_word body ∷ registers_from table (first_word body) (second_word body)

unfoldable pub reading : List ℤ → List ℕ → Outcome
reading table body = unless_met (read_fault body) (exception table body) (done (read_reply table body) table)

-- ---- 06H: a register and a value

-- the reply equals the request
unfoldable pub writing : List ℤ → List ℕ → Outcome
writing table body = unless_met (write_fault body) (exception table body) (done body (stored_all table (writes_from value_place body)))

-- ---- 08H: a test code and data

-- the reply equals the request here too
unfoldable pub looping_back : List ℤ → List ℕ → Outcome
looping_back table body = unless_met (loopback_fault body) (exception table body) (done body table)

-- ---- 10H: a register to start from, a quantity, a byte count, and the values of the registers

-- the reply repeats start and quantity, all that stands in front of the byte count
unfoldable pub writing_several : List ℤ → List ℕ → Outcome
writing_several table body =
    unless_met (several_fault body) (exception table body) (done (take count_place body) (stored_all table (writes_from data_place body)))

-- ---- any message

-- any other function is exception 1
unfoldable pub obeying : List ℤ → List ℕ → Outcome
obeying table body =
    cond (eqb (function_of body) read_registers) (reading table body)
    (cond (eqb (function_of body) write_register) (writing table body)
    (cond (eqb (function_of body) loopback) (looping_back table body)
    (cond (eqb (function_of body) write_several) (writing_several table body)
    (exception table body unknown_function))))

-- a message that has an address and a function is ours when the address is
abbrev pub ours : ℕ → List ℕ → Bool
ours address body = leb head_length (length body) && eqb (address_of body) address

-- What comes of a message, for a device with this address: another's is passed over in silence.
unfoldable pub acted : List ℤ → ℕ → List ℕ → Outcome
acted table address body = unless_met (unless (ours address body) other_address) (silent table) (obeying table body)

-- every reply, in the form that its line gives it, has room in a buffer of 256 bytes; a shorter buffer is refused before all else
unfoldable pub acted_within : List ℤ → ℕ → ℕ → List ℕ → Outcome
acted_within table room address body =
    unless_met (unless (leb least_buffer room) short_buffer) (silent table) (acted table address body)
