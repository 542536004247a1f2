-- How the code finds that table by one walk back: whether a frame is accepted does not depend on the table, so each item ends with the
-- last value that a frame writes to it, and the first that is met on the way back settles it. What is known then is written over the start
-- values. The alarm states, which no frame writes, are made true at the end. That this is the table of Playback.antt is proved.
use Rattle.std.specs.Prelude.{ℕ, ◌<◌, ◌≡◌, List, ℤ, length, get_or, Option, None}
use Rattle.items.specs.ItemList.{items}
use Rattle.table.specs.Table.{entry}
use Rattle.writes.specs.Writes.{later, over}
use Rattle.playback.specs.Written.{last_write}

-- what the item at a place is known to end with, or nothing
abbrev pub known_of : List (Option ℤ) → ℕ → Option ℤ
known_of known i = get_or known i None

-- each item of which nothing was known is settled where it is given a value; what was known stays
pub record Settles (gives : ℕ → Option ℤ) (known after : List (Option ℤ)) : Type 0 where
  pub now : (i : ℕ) → i < items → known_of after i ≡ later (known_of known i) (gives i)

-- of each item the last value that frames write to it is known, and nothing where they write none
pub record AllKnown (address : ℕ) (frames : List (List ℕ)) (known : List (Option ℤ)) : Type 0 where
  pub each : (i : ℕ) → i < items → known_of known i ≡ last_write address frames i

-- each entry becomes what is known of its item, and stays where nothing is
pub record WrittenOver (known : List (Option ℤ)) (t left : List ℤ) : Type 0 where
  pub entries : length left ≡ items
  pub each : (i : ℕ) → i < items → entry left i ≡ over (entry t i) (known_of known i)

-- each item has the last value that frames write to it, and stays where they write none
pub record LastWrites (address : ℕ) (frames : List (List ℕ)) (t left : List ℤ) : Type 0 where
  pub entries : length left ≡ items
  pub each : (i : ℕ) → i < items → entry left i ≡ over (entry t i) (last_write address frames i)
