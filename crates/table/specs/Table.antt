-- The lent table: one entry per item, in the list's order. The alarm states, AA and AB, stand in it and are kept true; XU gives the
-- decimals of some items.
use Rattle.std.specs.Prelude.{ℕ, suc, ◌-◌, ◌≡◌, ◌≢◌, Bool, true, false, not, cond, ◌&&◌, ◌||◌, List, [], ◌∷◌, map, eqb, ltb, ℤ, pos, nat_abs, get_or, set, length, Some}
use Rattle.std.specs.Int.Signed.{le_z}
use Rattle.numbers.specs.Numbers.{none, unless, first_met, unless_met}
use Rattle.sign.specs.Sign.{eq_z}
use Rattle.items.specs.ItemList.{Item, items, listed, item_list, from_low_to_high, in_range, found}

-- the numbers given back here; 2 is also given for an alarm state that is not true, and 7 for a put to one
abbrev pub wrong_length : ℕ
wrong_length = 1

abbrev pub entry_outside : ℕ
entry_outside = 2

abbrev pub no_such_item : ℕ
no_such_item = 6

abbrev pub value_outside : ℕ
value_outside = 7

-- what stands at a place of the table, 0 past its end
abbrev pub entry : List ℤ → ℕ → ℤ
entry t i = get_or t i (pos 0)

-- ---- the alarm states

-- the places of the alarm states, AA and AB, and of the items that they go by
abbrev pub M1 : ℕ
M1 = 0

abbrev pub AA : ℕ
AA = 1

abbrev pub AB : ℕ
AB = 2

abbrev pub A1 : ℕ
A1 = 6

abbrev pub A2 : ℕ
A2 = 7

-- the place of XU
abbrev pub XU : ℕ
XU = 12

-- they are the places at which these identifiers are found: 4DH is M, 41H A, 42H B, 31H 1, 32H 2, 58H X and 55H U
pub record Places : Type 0 where
  pub measured : found 0x4D 0x31 ≡ Some M1
  pub state1 : found 0x41 0x41 ≡ Some AA
  pub state2 : found 0x41 0x42 ≡ Some AB
  pub alarm1 : found 0x41 0x31 ≡ Some A1
  pub alarm2 : found 0x41 0x32 ≡ Some A2
  pub decimals : found 0x58 0x55 ≡ Some XU

-- whether an item is one of the two
abbrev pub is_alarm_state : ℕ → Bool
is_alarm_state i = eqb i AA || eqb i AB

-- the state of the alarm whose value stands at a place: 1 exactly when M1 is at least that value, else 0
unfoldable pub alarm : List ℤ → ℕ → ℤ
alarm t limit = cond (le_z (entry t limit) (entry t M1)) (pos 1) (pos 0)

-- AA agrees with M1 and A1, and AB with M1 and A2
abbrev pub alarms_agree : List ℤ → Bool
alarms_agree t = eq_z (entry t AA) (alarm t A1) && eq_z (entry t AB) (alarm t A2)

-- the table with AA and AB made true
unfoldable pub alarms_kept : List ℤ → List ℤ
alarms_kept t = set (set t AA (alarm t A1)) AB (alarm t A2)

-- ---- a good table

-- each entry is in the range of its item
abbrev pub all_in_range : List Item → List ℤ → Bool
all_in_range [] vs = true
all_in_range (x ∷ xs) [] = true
all_in_range (x ∷ xs) (v ∷ vs) = from_low_to_high x v && all_in_range xs vs

-- the table's fault: it must have an entry for each item, each must be in its range, and the alarm states must be true
unfoldable pub table_fault : List ℤ → ℕ
table_fault t =
    first_met
    (unless (eqb (length t) items) wrong_length
    ∷ unless (all_in_range item_list t) entry_outside
    ∷ unless (alarms_agree t) entry_outside
    ∷ [])

-- a table that has no fault
abbrev pub good_table : List ℤ → Bool
good_table t = eqb (table_fault t) none

-- ---- what is done with it

-- the start values, in any table of the right length
unfoldable pub start_values : List ℤ
start_values = map (λ (x : Item). x.start) item_list

unfoldable pub start_number : List ℤ → ℕ
start_number t = unless (eqb (length t) items) wrong_length

unfoldable pub start_table : List ℤ → List ℤ
start_table t = unless_met (start_number t) (λ number. t) start_values

-- what either line answers for an item: its entry
unfoldable pub answered : List ℤ → ℕ → ℤ
answered t i = entry t i

-- the decimals that XU gives: its entry, and none where that is outside its range, which it is in no good table
unfoldable pub xu_of : List ℤ → ℕ
xu_of t = cond (in_range XU (entry t XU)) (nat_abs (entry t XU)) 0

-- the table after the item at a place took a value: AA and AB are true again. Past the table's end there is no item, and
-- nothing happens.
unfoldable pub stored : List ℤ → ℕ → ℤ → List ℤ
stored t i v = cond (ltb i (length t)) (alarms_kept (set t i v)) t

-- the values that the firmware may put to an item: those in its range, and none to an alarm state
abbrev pub may_put : ℕ → ℤ → Bool
may_put i v = not (is_alarm_state i) && in_range i v

-- the firmware's put, of an item by its number from 1: the table must have no fault, there must be such an item, and it must be
-- one that the value may be put to
unfoldable pub put_number : List ℤ → ℕ → ℤ → ℕ
put_number t n v = first_met (table_fault t ∷ unless (listed n) no_such_item ∷ unless (may_put (n - 1) v) value_outside ∷ [])

-- it stores the value where no number is met, and else leaves the table
unfoldable pub put_table : List ℤ → ℕ → ℤ → List ℤ
put_table t n v = unless_met (put_number t n v) (λ number. t) (stored t (n - 1) v)

-- ---- what a write of XU changes

-- two tables are the same but for XU: every other entry is the same, the alarm states too
pub record SameButXU (t u : List ℤ) : Type 0 where
  pub long : length u ≡ length t
  pub others : (j : ℕ) → j ≢ XU → entry u j ≡ entry t j

-- a put to XU, by its number, leaves such a table of a good one, refused or not
abbrev pub PutOfXU : Type 0
PutOfXU = (t : List ℤ) (v : ℤ) → good_table t ≡ true → SameButXU t (put_table t (suc XU) v)

-- ---- what a lamp routine sees that looks at the table and asks nobody

-- the state at a place is true: 1 exactly when M1 is at least the alarm's value, and else 0
pub record IsTrue (t : List ℤ) (state limit : ℕ) : Type 0 where
  pub on : le_z (entry t limit) (entry t M1) ≡ true → entry t state ≡ pos 1
  pub only_then : entry t state ≡ pos 1 → le_z (entry t limit) (entry t M1) ≡ true
  pub off : le_z (entry t limit) (entry t M1) ≡ false → entry t state ≡ pos 0

-- AA goes by A1, AB by A2
pub record AlarmsTrue (t : List ℤ) : Type 0 where
  pub alarm1 : IsTrue t AA A1
  pub alarm2 : IsTrue t AB A2
