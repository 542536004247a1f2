-- What is claimed of captures: what is recorded is well formed and has the frames that were recorded, every well-formed capture was
-- recorded of its frames, and a frame that is shown is a part of the capture.
use Rattle.std.specs.Prelude.{ℕ, ◌≤◌, ◌<◌, ◌≡◌, true, List, length, get_or, take, drop}
use Rattle.numbers.specs.Numbers.{none}
use Rattle.capture.specs.Format.{longest_capture, capture_fault, frames}
use Rattle.capture.specs.Recorded.{recordable, recorded}
use Rattle.capture.specs.Show.{shown_frame, shown_place}

-- of frames: what is recorded of them is well formed where each has 1 to 256 bytes and it has at most 65,536, and its frames are those
pub record OfRecording (fs : List (List ℕ)) : Type 0 where
  pub well_formed : recordable fs ≡ true → length (recorded fs) ≤ longest_capture → capture_fault (recorded fs) ≡ none
  pub same_frames : frames (recorded fs) ≡ fs

-- of a capture; that it is what was recorded is said where its elements are bytes
pub record OfCapture (c : List ℕ) : Type 0 where
  pub recordable_frames : capture_fault c ≡ none → recordable (frames c) ≡ true
  pub same_bytes : capture_fault c ≡ none → ((i : ℕ) → get_or c i 0 < 256) → recorded (frames c) ≡ c
  pub is_part : (frame : ℕ) → shown_frame c frame ≡ take (length (shown_frame c frame)) (drop (shown_place c frame) c)
