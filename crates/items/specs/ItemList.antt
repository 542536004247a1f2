-- The item list of documents 01 and 02, and looking an item up in it. Inside, an item is known by its place in the list, from 0.
use Rattle.std.specs.Prelude.{ℕ, suc, ◌<◌, ◌≡◌, Bool, true, false, cond, ◌&&◌, List, [], ◌∷◌, ◌++◌, eqb, leb, ltb, ℤ, pos, length, get_or, Option, Some, None}
use Rattle.std.specs.Int.Signed.{le_z}
use Rattle.sign.specs.Sign.{minus}

-- what the list says of an item: its identifier's two characters, register, kind, decimals or that XU gives them, limits and start value
pub record Item : Type 0 where
  pub first : ℕ
  pub second : ℕ
  pub register : ℕ
  pub writable : Bool
  pub decimals : ℕ
  pub low : ℤ
  pub high : ℤ
  pub start : ℤ

-- the two kinds: what may be written may also be read
abbrev pub read : Bool
read = false

abbrev pub write : Bool
write = true

-- what stands for the decimals of an item that has those which XU gives; no item has so many
abbrev pub by_xu : ℕ
by_xu = 4

-- a line of the list, in that order
abbrev pub line : ℕ → ℕ → ℕ → Bool → ℕ → ℤ → ℤ → ℤ → Item
line a b r k d l h s = record { first = a; second = b; register = r; writable = k; decimals = d; low = l; high = h; start = s }

-- the list, in its order; an identifier's characters are their codes, 41H being A and 31H being 1
abbrev pub item_list : List Item
item_list =
    line 0x4D 0x31 0x0000 read by_xu (minus 1999) (pos 9999) (pos 0)  -- M1 measured value
    ∷ line 0x41 0x41 0x0001 read 0 (pos 0) (pos 1) (pos 0)  -- AA alarm 1 state
    ∷ line 0x41 0x42 0x0002 read 0 (pos 0) (pos 1) (pos 0)  -- AB alarm 2 state
    ∷ line 0x42 0x31 0x0003 read 0 (pos 0) (pos 1) (pos 0)  -- B1 burnout
    ∷ line 0x45 0x52 0x0004 read 0 (pos 0) (pos 255) (pos 0)  -- ER error code
    ∷ line 0x53 0x31 0x000B write by_xu (minus 1999) (pos 9999) (pos 0)  -- S1 set value
    ∷ line 0x41 0x31 0x000C write by_xu (minus 1999) (pos 9999) (pos 500)  -- A1 alarm 1
    ∷ line 0x41 0x32 0x000E write by_xu (minus 1999) (pos 9999) (pos 500)  -- A2 alarm 2
    ∷ line 0x50 0x42 0x0010 write 2 (minus 1000) (pos 1000) (pos 0)  -- PB offset
    ∷ line 0x50 0x52 0x0011 write 3 (pos 500) (pos 1500) (pos 1000)  -- PR ratio
    ∷ line 0x46 0x31 0x0012 write 0 (pos 0) (pos 100) (pos 0)  -- F1 filter
    ∷ line 0x54 0x4D 0x0008 write 0 (pos 0) (pos 999) (pos 0)  -- TM test number
    ∷ line 0x58 0x55 0x0013 write 0 (pos 0) (pos 3) (pos 1)  -- XU decimals of M1, S1, A1 and A2
    ∷ []

-- how many items there are
abbrev pub items : ℕ
items = 13

-- an item has this number, counted from 1
abbrev pub listed : ℕ → Bool
listed number = leb 1 number && leb number items

-- the map is 0000H to 0013H
abbrev pub map_size : ℕ
map_size = 20

-- what stands past the list: nothing may be written to it, and no value is in its range
abbrev pub no_item : Item
no_item = line 0 0 0 read 0 (pos 1) (pos 0) (pos 0)

-- the line at a place
abbrev pub item_at : ℕ → Item
item_at i = get_or item_list i no_item

-- the lines by which a column in the code has the list: its own, and last the line that is no item
abbrev pub lines : List Item
lines = item_list ++ (no_item ∷ [])

-- at which of them a column has what the list says at a place: past the list at the last one
abbrev pub line_of : ℕ → ℕ
line_of i = cond (ltb i items) i items

-- the two sizes are the list's: it has that many lines, and the register of each is in the map
pub record Sizes : Type 0 where
  pub counted : length item_list ≡ items
  pub mapped : (i : ℕ) → i < items → (item_at i).register < map_size

-- an item's identifier
abbrev pub identifier_of : Item → List ℕ
identifier_of x = x.first ∷ x.second ∷ []

-- the decimals of an item on the RKC line, where XU gives so many
unfoldable pub decimals_of : ℕ → ℕ → ℕ
decimals_of xu i = cond (eqb (item_at i).decimals by_xu) xu (item_at i).decimals

-- a value from the item's low to its high
abbrev pub from_low_to_high : Item → ℤ → Bool
from_low_to_high x v = le_z x.low v && le_z v x.high

unfoldable pub in_range : ℕ → ℤ → Bool
in_range i v = from_low_to_high (item_at i) v

-- the first line that passes a test, by its place; the lines left start at place i
abbrev pub first_from : ℕ → (Item → Bool) → List Item → Option ℕ
first_from i p [] = None
first_from i p (x ∷ xs) = cond (p x) (Some i) (first_from (suc i) p xs)

-- the identifier is these two characters
abbrev pub named : ℕ → ℕ → Item → Bool
named a b x = eqb x.first a && eqb x.second b

-- the register is this one
abbrev pub registered : ℕ → Item → Bool
registered r x = eqb x.register r

-- looked up by identifier, and by register
unfoldable pub found : ℕ → ℕ → Option ℕ
found a b = first_from 0 (named a b) item_list

unfoldable pub found_by_register : ℕ → Option ℕ
found_by_register r = first_from 0 (registered r) item_list

-- the place of the item that was found; past the list for none
abbrev pub place_found : Option ℕ → ℕ
place_found (Some i) = i
place_found None = items

-- the place of the item that has a register
unfoldable pub place_of : ℕ → ℕ
place_of register = place_found (found_by_register register)
