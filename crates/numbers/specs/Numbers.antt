-- The numbers given back: that none is met, those that both lines give, and the order in which a call tries its numbers.
use Rattle.std.specs.Prelude.{ℕ, Bool, cond, List, [], ◌∷◌, eqb}

-- a call that meets none of the numbers gives 0
abbrev pub none : ℕ
none = 0

-- ---- tried in this order

-- a number that is met where a test fails
abbrev pub unless : Bool → ℕ → ℕ
unless test number = cond test none number

-- of numbers in the order in which they are tried, the first that is met
abbrev pub first_met : List ℕ → ℕ
first_met [] = none
first_met (n ∷ ns) = cond (eqb n none) (first_met ns) n

-- what is done where no number is met; else what a refusal by the number comes to
abbrev pub unless_met : {A : Type 0} → ℕ → (ℕ → A) → A → A
unless_met number refused done = cond (eqb number none) done (refused number)

-- ---- what both lines share

-- the reply buffer is shorter than every reply has room in
abbrev pub short_buffer : ℕ
short_buffer = 3

abbrev pub least_buffer : ℕ
least_buffer = 256

-- an address or a line structure that no line has
abbrev pub bad_setting : ℕ
bad_setting = 4

-- the highest address of a device
abbrev pub last_address : ℕ
last_address = 99
