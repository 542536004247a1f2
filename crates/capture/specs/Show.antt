-- A frame of a capture is shown by its number, counted from 1 at the front.
use Rattle.std.specs.Prelude.{ℕ, ◌-◌, ◌≡◌, ◌&&◌, List, [], ◌∷◌, leb, length, get_or, Result, Ok, Err}
use Rattle.numbers.specs.declared.Refusal.{Refusal}
use Rattle.numbers.specs.Numbers.{none, unless, first_met, unless_met}
use Rattle.numbers.specs.Refusals.{number_of}
use Rattle.capture.specs.Format.{capture_fault, frames}
use Rattle.capture.specs.Recorded.{place_behind}
use Rattle.capture.specs.declared.Stretch.{Stretch}

-- the number given back here, beside that of a bad capture
abbrev pub no_such_frame : ℕ
no_such_frame = 52

-- the capture's fault, then that it has no such frame
unfoldable pub show_number : List ℕ → ℕ → ℕ
show_number c frame = first_met (capture_fault c ∷ unless (leb 1 frame && leb frame (length (frames c))) no_such_frame ∷ [])

-- the frame, and where it begins in the capture: nothing at place 0 where it is refused
unfoldable pub shown_frame : List ℕ → ℕ → List ℕ
shown_frame c frame = unless_met (show_number c frame) (λ number. []) (get_or (frames c) (frame - 1) [])

unfoldable pub shown_place : List ℕ → ℕ → ℕ
shown_place c frame = unless_met (show_number c frame) (λ number. 0) (place_behind (frame - 1) (frames c))

-- what looking a frame up gives back: a number, and where the frame stands
pub record Shown : Type 0 where
  pub number : ℕ
  pub place : ℕ
  pub len : ℕ

-- what an outcome of the code is: a stretch of the capture, or a refusal, which shows nothing at place 0
abbrev pub shown_as : Result Stretch Refusal → Shown
shown_as (Ok frame) = record { number = none; place = frame.place; len = frame.len }
shown_as (Err refusal) = record { number = number_of refusal; place = 0; len = 0 }

-- the promise of looking a frame up
pub record Shows (c : List ℕ) (frame : ℕ) (r : Shown) : Type 0 where
  pub given : r.number ≡ show_number c frame
  pub place : r.place ≡ shown_place c frame
  pub len : r.len ≡ length (shown_frame c frame)
