-- How a capture is written: a record for each frame, then the trailer.
use Rattle.std.specs.Prelude.{ℕ, ◌-◌, ◌/◌, ◌%◌, Bool, true, ◌&&◌, List, [], ◌∷◌, ◌++◌, leb, length, take}
use Rattle.registers.specs.Register.{high_first}
use Rattle.capture.specs.Format.{longest_frame}

-- four bytes with a number, high first
abbrev pub four_high_first : ℕ → List ℕ
four_high_first n = high_first (n / 0x10000) ++ high_first (n % 0x10000)

-- frames that records can hold: each has 1 to 256 bytes
abbrev pub recordable : List (List ℕ) → Bool
recordable [] = true
recordable (f ∷ fs) = leb 1 (length f) && leb (length f) longest_frame && recordable fs

abbrev pub records : List (List ℕ) → List ℕ
records [] = []
records (f ∷ fs) = (f ++ high_first (length f)) ++ records fs

-- where the record of a frame begins that has so many frames before it
abbrev pub place_behind : ℕ → List (List ℕ) → ℕ
place_behind n fs = length (records (take n fs))

-- records, then their number and the place of the last one, 0 where there are none
unfoldable pub recorded : List (List ℕ) → List ℕ
recorded fs = records fs ++ (high_first (length fs) ++ four_high_first (place_behind (length fs - 1) fs))
