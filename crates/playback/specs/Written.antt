-- What a frame writes to an item.
use Rattle.std.specs.Prelude.{ℕ, Bool, cond, ◌&&◌, List, [], ◌∷◌, eqb, Option, None, ℤ}
use Rattle.numbers.specs.Numbers.{none}
use Rattle.crc.specs.Crc.{body_of}
use Rattle.writes.specs.Writes.{given, later}
use Rattle.settings.specs.Settings.{writes_of, accepts_write}
use Rattle.rtu.specs.Frame.{frame_fault}

-- a frame is a write that the rules accept, for a device with this address: it has no fault, and its message is such a write
unfoldable pub accepts_frame : ℕ → List ℕ → Bool
accepts_frame address frame = eqb (frame_fault frame) none && accepts_write address (body_of frame)

-- what a frame writes to the item at a place: what its message gives the item, and nothing where it is not accepted
unfoldable pub wrote : ℕ → List ℕ → ℕ → Option ℤ
wrote address frame i = cond (accepts_frame address frame) (given (writes_of (body_of frame)) i) None

-- what the last of frames writes to it that writes to it at all
abbrev pub last_write : ℕ → List (List ℕ) → ℕ → Option ℤ
last_write address [] i = None
last_write address (f ∷ fs) i = later (last_write address fs i) (wrote address f i)
