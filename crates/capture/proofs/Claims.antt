-- What is claimed of captures holds: of what is recorded since the walk reads it back, of a capture since its bytes are those of the
-- walk, and of a frame that is shown since it stands at its place.
-- Assumes nothing.
use mathlib.Core.Path.{sym, ap, ap₂, ◌∙◌}
use mathlib.Core.List.{List, ◌++◌}
use Prim.Native.Nat.{ℕ, ◌-◌}
use native.Mathlib.Omega.{arith}
use borrow.Author.Tests.{eq-eqb}
use lib.ListN.{length, take-append-drop}
use Rattle.capture.specs.Format.{trailer_begins, count, frames}
use Rattle.capture.specs.Recorded.{records, place_behind, recorded}
use Rattle.capture.specs.Claims.{OfRecording, OfCapture}
use Rattle.capture.proofs.Walk.{Walking, right-length, fault-reached, sound, begins-behind}
use Rattle.capture.proofs.ByNumber.{frames-counted, shown-part}
use Rattle.capture.proofs.Recorded.{recorded-reads, recorded-length, recorded-place, recorded-count, recorded-last}
use Rattle.capture.proofs.Recorded.{walk-bytes, trailer-bytes, walk-recordable}

pub recording-claimed : (fs : List (List ℕ)) → OfRecording fs
unfolding frames
recording-claimed fs =
    record {
      well_formed = λ r short.
          let reads = recorded-reads fs in
          let reached = reads.reached r in
          let long = recorded-length fs in
          let walking : Walking (recorded fs) (length fs) (length (records fs)) = record { inside = omega arith; reached = reached } in
          let begin = begins-behind _ _ _ walking ∙ ap (place_behind (length fs - 1)) reads.same in
          rw (
            fault-reached (recorded fs),
            right-length (recorded fs) (omega arith) short,
            recorded-place fs,
            recorded-count fs,
            reached,
            eq-eqb _ _ (recorded-last fs ∙ sym begin),
          );
      same_frames = rw (recorded-place fs, recorded-count fs) (recorded-reads fs).same;
    }

pub capture-claimed : (c : List ℕ) → OfCapture c
unfolding frames recorded
capture-claimed c =
    record {
      recordable_frames = λ fine. walk-recordable c (count c) (trailer_begins c) (sound c fine).walking;
      same_bytes = λ fine bytes.
          let s = sound c fine in
          let last = s.trailer.last ∙ begins-behind c (count c) (trailer_begins c) s.walking in
          rw (frames-counted c, ← last)
          (ap₂ (λ (x y : List ℕ). x ++ y) (walk-bytes c bytes (count c) (trailer_begins c) s.walking) (trailer-bytes c bytes s.trailer.long)
          ∙ take-append-drop (trailer_begins c) c);
      is_part = λ frame. (shown-part c frame).same;
    }
