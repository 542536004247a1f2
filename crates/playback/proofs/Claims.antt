-- What is claimed in specs/Claims.antt of every frame and of every playback.
-- Assumes nothing.
use mathlib.Core.Path.{◌≡◌, refl, sym, ap, ap₂, ◌∙◌}
use mathlib.Core.Bool.{Bool, true, false}
use mathlib.Core.List.{List, [], ◌∷◌}
use Prim.Native.Nat.{ℕ}
use borrow.Author.Tests.{eqb-true, eqb-false}
use lib.Dec.{eqb}
use lib.IntN.{ℤ}
use Rattle.numbers.specs.Numbers.{none}
use Rattle.numbers.proofs.Tests.{both}
use Rattle.numbers.proofs.Order.{is-refused, is-done}
use Rattle.items.specs.ItemList.{item_at}
use Rattle.table.specs.Table.{entry, is_alarm_state, good_table, start_values}
use Rattle.table.proofs.Laws.{good-alarms, good-same}
use Rattle.writes.specs.Writes.{over}
use Rattle.crc.specs.Crc.{body_of}
use Rattle.modbus.specs.Outcome.{Outcome}
use Rattle.settings.specs.Settings.{accepts_write, ToWrite}
use Rattle.settings.proofs.Accepted.{accepted-asks, accepted-number}
use Rattle.call.specs.Call.{Call, call_fault}
use Rattle.rtu.specs.Frame.{frame_fault, acted_on}
use Rattle.rtu.proofs.Replies.{acted-refused, acted-answered}
use Rattle.rtu.proofs.Demands.{frame-read-only}
use Rattle.capture.specs.Format.{frames}
use Rattle.playback.specs.Playback.{after, handed_over, at_start, play_number, played}
use Rattle.playback.specs.Written.{accepts_frame, last_write}
use Rattle.playback.specs.Claims.{OfFrame, OfPlayback}
use Rattle.playback.proofs.Frames.{not-accepted, by_message, frame-writes}
use Rattle.playback.proofs.Frames.{start_fine, handed-writes, handed-good}
use Rattle.playback.proofs.Played.{address-right, start-at}

-- ---- a frame

pub frame-claimed : (call : Call) (frame : List ℕ) → OfFrame call frame
unfolding after accepts_frame
frame-claimed call frame =
    record {
      only_writes = λ a.
          accepted-asks call.address (body_of frame)
          (both (eqb (frame_fault frame) none) (accepts_write call.address (body_of frame)) a).1;
      by_number = λ fine w. by_its_number fine w (eqb (frame_fault frame) none) refl;
      entry_written = λ fine. frame-writes call fine frame;
    }
  where
    no_number : Outcome → Bool
    no_number o = eqb o.number none

    by_its_number : call_fault call ≡ none → ToWrite (body_of frame) → (b : Bool) → eqb (frame_fault frame) none ≡ b
        → accepts_frame call.address frame ≡ no_number (acted_on call frame)
    by_its_number fine w false r =
        let wrong = eqb-false (frame_fault frame) none r in
        not-accepted call.address frame wrong ∙ sym r ∙ sym (ap no_number (acted-refused call frame fine wrong))
    by_its_number fine w true r =
        let right = eqb-true (frame_fault frame) none r in
        by_message call.address frame right
        ∙ accepted-number call.table call.address (body_of frame) w
        ∙ sym (ap no_number (acted-answered call frame fine right))

-- ---- playback

-- frames leave the entries of read-only items, the alarm states apart
handed-read-only : (fs : List (List ℕ)) (call : Call) (i : ℕ) → (item_at i).writable ≡ false → is_alarm_state i ≡ false
    → entry (handed_over call fs).table i ≡ entry call.table i
unfolding after
handed-read-only [] call i r s = refl
handed-read-only (f ∷ fs) call i r s = handed-read-only fs (after call f) i r s ∙ frame-read-only call f i r s

module _ (t : List ℤ) (address : ℕ) (c : List ℕ) where
  abbrev left : List ℤ
  left = (handed_over (at_start address) (frames c)).table

  with_none : play_number t address c ≡ none → played t address c ≡ left
  unfolding played
  with_none = is-done (play_number t address c) (λ n. t) left

  refused : (play_number t address c ≡ none → ⊥) → played t address c ≡ t
  unfolding played
  refused = is-refused (play_number t address c) (λ n. t) left

  played-good : play_number t address c ≡ none → good_table (played t address c) ≡ true
  played-good e = rw (with_none e) (handed-good (frames c) (at_start address) (start-at address (address-right t address c e)))

-- frames leave the same of the same table, whatever the buffer
any-buffer : (fs : List (List ℕ)) (one other : Call) → call_fault one ≡ none → call_fault other ≡ none → one.table ≡ other.table
    → one.address ≡ other.address → (handed_over one fs).table ≡ (handed_over other fs).table
any-buffer fs one other p q t a =
    good-same (handed_over other fs).table (handed_over one fs).table (handed-good fs other q) (handed-good fs one p)
    (λ i s h.
    handed-writes fs one p i s h
    ∙ ap₂ (λ (u : List ℤ) (n : ℕ). over (entry u i) (last_write n fs i)) t a
    ∙ sym (handed-writes fs other q i s h))

pub playback-claimed : (t : List ℤ) (address : ℕ) (c : List ℕ) → OfPlayback t address c
unfolding at_start
playback-claimed t address c =
    record {
      refusal_leaves = refused t address c;
      any_buffer = λ e buffer room.
          let right = address-right t address c e in
          with_none t address c e
          ∙ any-buffer (frames c) (at_start address) (record { table = start_values; buffer = buffer; address = address }) (start-at address right)
          (start_fine address buffer right room) refl refl;
      good = played-good t address c;
      alarms_true = λ e. good-alarms (played t address c) (played-good t address c e);
      read_only_at_start = λ e i r s. rw (with_none t address c e) (handed-read-only (frames c) (at_start address) i r s);
    }
