-- What a frame is refused for, case by case, and what is known of one that is not refused.
-- Assumes nothing.
use mathlib.Core.Path.{◌≡◌}
use mathlib.Core.Bool.{Bool, ◌&&◌}
use mathlib.Core.List.{List}
use Prim.Native.Nat.{ℕ, ◌≤◌}
use native.Mathlib.Omega.{arith}
use borrow.Author.Tests.{leb-true, le-leb}
use lib.Dec.{leb}
use lib.ListN.{length}
use Rattle.numbers.specs.Numbers.{none, unless}
use Rattle.numbers.proofs.Tests.{both}
use Rattle.numbers.proofs.Order.{last-met, passed}
use Rattle.crc.specs.Crc.{is_right}
use Rattle.rtu.specs.Frame.{wrong_frame_length, wrong_crc, shortest, longest, frame_fault}

module _ (frame : List ℕ) where
  pub frame-crc : shortest ≤ length frame → length frame ≤ longest → {b : Bool} → b ≡ is_right frame
      → frame_fault frame ≡ unless b wrong_crc
  unfolding frame_fault
  frame-crc h k e = rw (le-leb shortest (length frame) h, le-leb (length frame) longest k, ← e) (last-met _)

  pub frame-has-body : frame_fault frame ≡ none → 4 ≤ length frame
  unfolding frame_fault
  frame-has-body e =
      let l = passed (leb shortest (length frame) && leb (length frame) longest) wrong_frame_length _ (omega arith) e in
      leb-true shortest (length frame) (both (leb shortest (length frame)) (leb (length frame) longest) l.0).0
