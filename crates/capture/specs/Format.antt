-- A capture of RTU frames: records, and behind them a trailer. A record has the bytes of a frame and then two with their number, so it
-- is found by the place that it ends in front of, and the walk goes back from end to end, beginning at the trailer.
use Rattle.std.specs.Prelude.{ℕ, zero, suc, ◌+◌, ◌-◌, ◌*◌, ◌≡◌, Bool, ◌&&◌, List, [], ◌∷◌, ◌++◌, eqb, leb, length, get_or, take, drop}
use Rattle.std.specs.Borrow.{Bor}
use Rattle.numbers.specs.Numbers.{unless, first_met}
use Rattle.registers.specs.Register.{word}

-- the number given back here
abbrev pub bad_capture : ℕ
bad_capture = 51

-- the most bytes that a capture has, and a frame
abbrev pub longest_capture : ℕ
longest_capture = 65536

abbrev pub longest_frame : ℕ
longest_frame = 256

-- the number that two bytes from a place on make, the high one first, and that four make
abbrev pub two_at : List ℕ → ℕ → ℕ
two_at c i = word (get_or c i 0) (get_or c (i + 1) 0)

abbrev pub four_at : List ℕ → ℕ → ℕ
four_at c i = two_at c i * 0x10000 + two_at c (i + 2)

-- ---- a record: the bytes of a frame, then two with their number

abbrev pub size_bytes : ℕ
size_bytes = 2

-- how many bytes a frame has whose record ends in front of a place
unfoldable pub size : List ℕ → ℕ → ℕ
size c end = two_at c (end - size_bytes)

-- where that record begins
unfoldable pub begins : List ℕ → ℕ → ℕ
begins c end = end - (size c end + size_bytes)

-- whether one ends there: its frame has 1 to 256 bytes, and it does not begin before place 0
unfoldable pub record_ends : List ℕ → ℕ → Bool
record_ends c end = leb 1 (size c end) && leb (size c end) longest_frame && leb (size c end + size_bytes) end

-- its frame
unfoldable pub frame_before : List ℕ → ℕ → List ℕ
frame_before c end = take (size c end) (drop (begins c end) c)

-- the promise of a function that gives back a part of the lent capture: these bytes, which stand in it from this place on
pub record PartOf (capture : Bor (List ℕ)) (place : ℕ) (part : List ℕ) (r : Bor (List ℕ)) : Type 0 where
  pub bytes : r.now ≡ part
  pub stands : r.ref_ptr ≡ (capture.ref_ptr.0, place + capture.ref_ptr.1)

-- ---- the trailer: two bytes with the number of records, four with the place where the last one begins

abbrev pub trailer_length : ℕ
trailer_length = 6

unfoldable pub trailer_begins : List ℕ → ℕ
trailer_begins c = length c - trailer_length

unfoldable pub count : List ℕ → ℕ
count c = two_at c (trailer_begins c)

unfoldable pub last_place : List ℕ → ℕ
last_place c = four_at c (trailer_begins c + 2)

-- ---- the walk back

-- so many records, each in front of the other, lead back from a place to place 0
abbrev pub reaches : List ℕ → ℕ → ℕ → Bool
reaches c zero end = eqb end 0
reaches c (suc n) end = record_ends c end && reaches c n (begins c end)

-- it has as many bytes as a capture can have
abbrev pub allowed_length : List ℕ → Bool
allowed_length c = leb trailer_length (length c) && leb (length c) longest_capture

-- the last record begins at the place that the trailer says. In six bytes with none the place is 0, which is where a record that ends at
-- place 0 would begin.
abbrev pub trailer_points : List ℕ → Bool
trailer_points c = eqb (last_place c) (begins c (trailer_begins c))

-- both, so that a walk back can begin
unfoldable pub trailer_right : List ℕ → Bool
trailer_right c = allowed_length c && trailer_points c

-- the trailer points to the last record, and the walk from the trailer reaches place 0 after exactly as many records as it says
unfoldable pub well_formed : List ℕ → Bool
well_formed c = trailer_points c && reaches c (count c) (trailer_begins c)

-- the fault of a capture: its length, or that it is not well formed
unfoldable pub capture_fault : List ℕ → ℕ
capture_fault c = first_met (unless (allowed_length c) bad_capture ∷ unless (well_formed c) bad_capture ∷ [])

-- ---- its frames, from the front

-- those of so many records that lead back from a place
abbrev pub frames_to : List ℕ → ℕ → ℕ → List (List ℕ)
frames_to c zero end = []
frames_to c (suc n) end = frames_to c n (begins c end) ++ (frame_before c end ∷ [])

unfoldable pub frames : List ℕ → List (List ℕ)
frames c = frames_to c (count c) (trailer_begins c)
