-- What comes of a message: the number given back, the reply's body, and the table.
use Rattle.std.specs.Prelude.{ℕ, ◌+◌, ◌-◌, cond, List, [], ◌∷◌, ltb, ℤ, get_or}
use Rattle.numbers.specs.Numbers.{none}

pub record Outcome : Type 0 where
  pub number : ℕ
  pub reply : List ℕ
  pub table : List ℤ

-- the numbers given back here, beside `none` and those of the functions' faults
abbrev pub other_address : ℕ
other_address = 23

abbrev pub unknown_function : ℕ
unknown_function = 31

-- what every message has at its front: the address, then the function
abbrev pub head_length : ℕ
head_length = 2

abbrev pub address_of : List ℕ → ℕ
address_of body = get_or body 0 0

abbrev pub function_of : List ℕ → ℕ
function_of body = get_or body 1 0

-- nothing is sent, and the table stays
abbrev pub silent : List ℤ → ℕ → Outcome
silent table number = record { number = number; reply = []; table = table }

-- the request is done: this reply, and this table
abbrev pub done : List ℕ → List ℤ → Outcome
done reply table = record { number = none; reply = reply; table = table }

-- a function with its top bit set; 80H and above keeps its value
abbrev pub top_bit_set : ℕ → ℕ
top_bit_set function = cond (ltb function 0x80) (function + 0x80) function

-- numbers 31, 32 and 33 are exceptions 1, 2 and 3
abbrev pub code_of : ℕ → ℕ
code_of number = number - 30

-- an exception reply: address, function with its top bit set, code
unfoldable pub exception_reply : List ℕ → ℕ → List ℕ
exception_reply body number = address_of body ∷ top_bit_set (function_of body) ∷ code_of number ∷ []

-- a request that meets a fault is answered by the exception of its number, which changes nothing in the table
abbrev pub exception : List ℤ → List ℕ → ℕ → Outcome
exception table body number = record { number = number; reply = exception_reply body number; table = table }
