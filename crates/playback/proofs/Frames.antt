-- Frames handed over one at a time: the caller of each makes no fault, and each entry but the alarm states ends with the last value that
-- a frame writes to its item.
-- Assumes nothing.
use Rattle.std.specs.Prelude.{Option, None}
use mathlib.Core.Path.{◌≡◌, refl, sym, ap, ◌∙◌}
use mathlib.Core.Bool.{Bool, true, false, ◌&&◌}
use mathlib.Core.List.{List, [], ◌∷◌, ◌++◌}
use Prim.Native.Nat.{ℕ, ◌≤◌, ◌<◌}
use native.Mathlib.Omega.{arith}
use borrow.Author.Tests.{eqb-true, eqb-false, eq-eqb, ne_eqb}
use lib.Dec.{eqb}
use lib.IntN.{ℤ}
use lib.ListN.{length}
use lib.Seq.{length-sets}
use Rattle.numbers.specs.Numbers.{none, least_buffer}
use Rattle.numbers.proofs.Tests.{both}
use Rattle.items.specs.ItemList.{items, item_at}
use Rattle.table.specs.Table.{entry, is_alarm_state, alarms_kept, good_table, table_fault, start_values}
use Rattle.table.proofs.Laws.{good_start, good_length, good_others}
use Rattle.crc.specs.Crc.{body_of}
use Rattle.writes.specs.Writes.{allowed, each, given, later, over}
use Rattle.writes.proofs.Stored.{later-none, later-assoc, over-later, all-given, read-only-given}
use Rattle.modbus.specs.Outcome.{Outcome}
use Rattle.modbus.specs.Rules.{ours}
use Rattle.settings.specs.Settings.{writes_of, right_form, accepts_write}
use Rattle.settings.proofs.Accepted.{accepted-stores, others-leave}
use Rattle.call.specs.Call.{Call, is_address, call_fault}
use Rattle.call.proofs.Faults.{is-fine, no-fault}
use Rattle.rtu.specs.Frame.{frame_fault, acted_on}
use Rattle.rtu.proofs.Refusals.{frame-has-body}
use Rattle.rtu.proofs.Replies.{acted-refused, acted-answered}
use Rattle.rtu.proofs.Demands.{frame-good}
use Rattle.playback.specs.Playback.{after, handed_over}
use Rattle.playback.specs.Written.{accepts_frame, wrote, last_write}
use Rattle.playback.specs.Settling.{LastWrites}

-- ---- what a frame writes

module _ (address : ℕ) (frame : List ℕ) where
  -- a frame with a fault is not accepted, and of one with none the message decides
  pub not-accepted : (frame_fault frame ≡ none → ⊥) → accepts_frame address frame ≡ false
  unfolding accepts_frame
  not-accepted f = rw (ne_eqb (frame_fault frame) none f)

  pub by_message : frame_fault frame ≡ none → accepts_frame address frame ≡ accepts_write address (body_of frame)
  unfolding accepts_frame
  by_message right = rw (eq-eqb (frame_fault frame) none right)

  pub with_body : frame_fault frame ≡ none → 4 ≤ length frame
  with_body = frame-has-body frame

  -- so one that is accepted has a body
  pub accepted_body : accepts_frame address frame ≡ true → 4 ≤ length frame
  unfolding accepts_frame
  accepted_body a =
      let right = (both (eqb (frame_fault frame) none) (accepts_write address (body_of frame)) a).0 in
      frame-has-body frame (eqb-true (frame_fault frame) none right)

  module _ (i : ℕ) where
    pub other_writes : accepts_frame address frame ≡ false → wrote address frame i ≡ None
    unfolding wrote
    other_writes a = rw a

    pub accepted_writes : accepts_frame address frame ≡ true → wrote address frame i ≡ given (writes_of (body_of frame)) i
    unfolding wrote
    accepted_writes a = rw a

-- a read-only item is never written
pub read-only-writes : (address : ℕ) (frame : List ℕ) (i : ℕ) → (item_at i).writable ≡ false → wrote address frame i ≡ None
unfolding accepts_frame accepts_write
read-only-writes address frame i r = by (accepts_frame address frame) refl
  where
    by : (b : Bool) → accepts_frame address frame ≡ b → wrote address frame i ≡ None
    by false a = other_writes address frame i a
    by true a =
        let message = (both (eqb (frame_fault frame) none) (accepts_write address (body_of frame)) a).1 in
        let form = ours address (body_of frame) && right_form (body_of frame) in
        accepted_writes address frame i a
        ∙ read-only-given (writes_of (body_of frame)) i (both form (each allowed (writes_of (body_of frame))) message).1 r

-- ---- one frame

module _ (call : Call) (fine : call_fault call ≡ none) (frame : List ℕ) where
  good : good_table call.table ≡ true
  good = eq-eqb (table_fault call.table) none (is-fine call fine).table

  -- the next frame's caller makes no fault either
  pub after-fine : call_fault (after call frame) ≡ none
  unfolding after
  after-fine =
      let room = (is-fine call fine).room in
      let same = length-sets call.buffer 0 (acted_on call frame).reply in
      no-fault (after call frame)
      (record {
        table = eqb-true (table_fault (acted_on call frame).table) none (frame-good call frame good);
        room = omega arith;
        address = (is-fine call fine).address;
      })

  -- each entry but the alarm states becomes what the frame writes to its item, and stays where it writes nothing
  pub frame-writes : (i : ℕ) → is_alarm_state i ≡ false → i < items
      → entry (after call frame).table i ≡ over (entry call.table i) (wrote call.address frame i)
  unfolding after
  frame-writes i s h = by (eqb (frame_fault frame) none) (accepts_write call.address (body_of frame)) refl refl
    where
      entry_of : Outcome → ℤ
      entry_of o = entry o.table i

      by : (right accepted : Bool) → eqb (frame_fault frame) none ≡ right → accepts_write call.address (body_of frame) ≡ accepted
          → entry_of (acted_on call frame) ≡ over (entry call.table i) (wrote call.address frame i)
      by false accepted r a =
          let wrong = eqb-false (frame_fault frame) none r in
          ap entry_of (acted-refused call frame fine wrong)
          ∙ ap (over (entry call.table i)) (sym (other_writes call.address frame i (not-accepted call.address frame wrong)))
      by true false r a =
          let right = eqb-true (frame_fault frame) none r in
          ap entry_of (acted-answered call frame fine right)
          ∙ ap (λ (t : List ℤ). entry t i) (others-leave call.table call.address (body_of frame) a)
          ∙ ap (over (entry call.table i)) (sym (other_writes call.address frame i (by_message call.address frame right ∙ a)))
      by true true r a =
          let right = eqb-true (frame_fault frame) none r in
          ap entry_of (acted-answered call frame fine right)
          ∙ ap (λ (t : List ℤ). entry t i) (accepted-stores call.table call.address (body_of frame) a)
          ∙ all-given call.table (writes_of (body_of frame)) i s (omega (arith, good_length call.table good))
          ∙ ap (over (entry call.table i)) (sym (accepted_writes call.address frame i (by_message call.address frame right ∙ a)))

-- ---- frames one after the other

pub handed-writes : (fs : List (List ℕ)) (call : Call) → call_fault call ≡ none → (i : ℕ) → is_alarm_state i ≡ false → i < items
    → entry (handed_over call fs).table i ≡ over (entry call.table i) (last_write call.address fs i)
unfolding after
handed-writes [] call fine i s h = refl
handed-writes (f ∷ fs) call fine i s h =
    handed-writes fs (after call f) (after-fine call fine f) i s h
    ∙ ap (λ (v : ℤ). over v (last_write call.address fs i)) (frame-writes call fine f i s h)
    ∙ over-later (entry call.table i) (last_write call.address fs i) (wrote call.address f i)

handed-fine : (fs : List (List ℕ)) (call : Call) → call_fault call ≡ none → call_fault (handed_over call fs) ≡ none
handed-fine [] call fine = fine
handed-fine (f ∷ fs) call fine = handed-fine fs (after call f) (after-fine call fine f)

-- so they leave a good table
pub handed-good : (fs : List (List ℕ)) (call : Call) → call_fault call ≡ none → good_table (handed_over call fs).table ≡ true
handed-good fs call fine =
    eq-eqb (table_fault (handed_over call fs).table) none (is-fine (handed_over call fs) (handed-fine fs call fine)).table

-- what begins at the start values makes no fault, in any buffer with room
pub start_fine : (address : ℕ) (buffer : List ℕ) → is_address address ≡ true → least_buffer ≤ length buffer
    → call_fault (record { table = start_values; buffer = buffer; address = address }) ≡ none
start_fine address buffer a room =
    no-fault (record { table = start_values; buffer = buffer; address = address })
    (record { table = eqb-true (table_fault start_values) none good_start; room = room; address = a })

-- the table that frames leave is the one where each entry has the last value that they write to its item, and then the alarm states are
-- made true
pub last-writes : (fs : List (List ℕ)) (call : Call) {left : List ℤ} → call_fault call ≡ none
    → LastWrites call.address fs call.table left → alarms_kept left ≡ (handed_over call fs).table
last-writes fs call {left} fine w =
    good_others (handed_over call fs).table left (handed-good fs call fine) w.entries
    (λ i s h. w.each i h ∙ sym (handed-writes fs call fine i s h))

-- ---- one frame more at the end

pub last-one-more : (address : ℕ) (fs : List (List ℕ)) (f : List ℕ) (i : ℕ)
    → last_write address (fs ++ (f ∷ [])) i ≡ later (wrote address f i) (last_write address fs i)
last-one-more address [] f i = sym (later-none (wrote address f i))
last-one-more address (g ∷ fs) f i =
    ap (λ (x : Option ℤ). later x (wrote address g i)) (last-one-more address fs f i)
    ∙ later-assoc (wrote address f i) (last_write address fs i) (wrote address g i)
