-- Nothing is lost between two calls: the state that a call hands back is the one that the next call finds in its bytes.
-- Assumes nothing.
use Rattle.std.specs.Prelude.{Option, Some, None}
use mathlib.Core.Path.{◌≡◌, refl, ◌∙◌}
use mathlib.Core.Bool.{Bool, true, false, cond, ◌&&◌}
use mathlib.Core.List.{List}
use Prim.Native.Nat.{ℕ, ◌-◌, ◌^◌, ◌<◌}
use native.Mathlib.Omega.{arith}
use borrow.Author.Tests.{eqb-true}
use lib.Dec.{eqb, leb}
use lib.IntN.{ℤ}
use lib.ListN.{length, get_or, length-set}
use lib.Seq.{length-slice}
use Rattle.numbers.specs.Numbers.{none}
use Rattle.numbers.proofs.Tests.{chosen}
use Rattle.kept.proofs.Cut.{up-to-length}
use Rattle.items.specs.ItemList.{found}
use Rattle.phases.specs.Phases.{one_character, two_characters, waiting}
use Rattle.phases.specs.declared.Act.{Act}
use Rattle.phases.specs.declared.Act.TheVariants.{Go, First, Both, More, Ended, Quit, Poll, Send, Judge}
use Rattle.rkc.specs.declared.Link.{Link}
use Rattle.rkc.specs.State.{in_phase, holding_one, holding_two, waiting_on, block, in_block, used, with_more, with_end}
use Rattle.rkc.specs.Outcome.{Step, Outcome, item_text, item_sent, polled, refusing, judged, performed, ByteCall, byte_fault, received}
use Rattle.rkc.specs.Outcome.{IdleCall, elapsed, patience, idle_fault, idled}
use Rattle.state.specs.State.{state_bytes, fields, unknown_phase, unpacked, packed}
use Rattle.state.proofs.Parts.{part-elements}
use Rattle.state.proofs.Packing.{unpacked-packed}

-- a state whose bytes hold all of it: eight kept characters, and a time of four bytes
pub record Whole (l : Link) : Type 0 where
  pub eight : length l.kept ≡ 8
  pub small : l.time < 2 ^ 32

-- the state that a step hands back is whole
abbrev LeavesWhole : Step → Type 0
LeavesWhole s = Whole s.link

-- ---- each kind of state

in-phase-whole : (phase : ℕ) → Whole (in_phase phase)
in-phase-whole phase = record { eight = refl; small = omega arith }

one-whole : (a : ℕ) → Whole (holding_one a)
one-whole a = record { eight = refl; small = omega arith }

two-whole : (a b : ℕ) → Whole (holding_two a b)
two-whole a b = record { eight = refl; small = omega arith }

waiting-whole : (item time : ℕ) → time < 2 ^ 32 → Whole (waiting_on item time)
waiting-whole item time h = record { eight = refl; small = h }

block-whole : (phase count sum : ℕ) (mark : Bool) (kept : List ℕ) → length kept ≡ 8 → Whole (block phase count sum mark kept)
block-whole phase count sum mark kept e = record { eight = e; small = omega arith }

module _ (l : Link) (w : Whole l) where
  used-whole : Whole (used l)
  unfolding used
  used-whole =
      chosen Whole (eqb l.phase one_character) (λ _. one-whole _)
      (λ _. chosen Whole (eqb l.phase two_characters) (λ _. two-whole _ _)
      (λ _. chosen Whole (eqb l.phase waiting) (λ _. waiting-whole _ _ w.small)
      (λ _. chosen Whole (in_block l.phase) (λ _. block-whole _ _ _ _ _ (up-to-length l.count l.kept ∙ w.eight))
      (λ _. in-phase-whole _))))

  more-whole : (c : ℕ) → Whole (with_more l c)
  unfolding with_more
  more-whole c = block-whole _ _ _ _ _ (length-set l.kept l.count _ ∙ w.eight)

  end_whole : Whole (with_end l)
  unfolding with_end
  end_whole = block-whole _ _ _ _ _ w.eight

-- ---- each act, at a time of four bytes

module _ (structure time : ℕ) (t : List ℤ) (h : time < 2 ^ 32) where
  item-whole : (i : ℕ) → LeavesWhole (item_sent structure time t i)
  unfolding item_sent
  item-whole i =
      chosen LeavesWhole (eqb (item_text t i).number none) (λ _. waiting-whole _ time h) (λ _. in-phase-whole _)

  polled-whole : (f : Option ℕ) → LeavesWhole (polled structure time t f)
  polled-whole (Some i) = item-whole i
  polled-whole None = in-phase-whole _

  judged-whole : (l : Link) (c : ℕ) → LeavesWhole (judged structure t l c).step
  judged-whole l c =
      chosen (λ (o : Outcome). LeavesWhole o.step) (eqb (refusing t l c) none)
      (λ _. in-phase-whole _)
      (λ _. in-phase-whole _)

  performed-whole : (l : Link) (x : Act) → Whole l → LeavesWhole (performed l t structure time x).step
  unfolding performed
  performed-whole l (Go phase) w = in-phase-whole phase
  performed-whole l (First a) w = one-whole a
  performed-whole l (Both a b) w = two-whole a b
  performed-whole l (More c) w = more-whole l w c
  performed-whole l Ended w = end_whole l w
  performed-whole l (Quit refusal) w = in-phase-whole _
  performed-whole l (Poll a b) w = polled-whole (found a b)
  performed-whole l (Send item) w = item-whole (item - 1)
  performed-whole l (Judge c) w = judged-whole l c

-- ---- a call on a whole state leaves a whole one

pub whole-after-byte : (call : ByteCall) → Whole call.link → call.time < 2 ^ 32 → Whole (received call).step.link
unfolding received
whole-after-byte call w h =
    chosen (λ (o : Outcome). LeavesWhole o.step) (eqb (byte_fault call) none)
    (λ _. performed-whole call.structure call.time call.table h (used call.link) _ (used-whole call.link w))
    (λ _. w)

pub whole-after-idle : (call : IdleCall) → Whole call.link → Whole (idled call).link
unfolding idled
whole-after-idle call w =
    chosen LeavesWhole (eqb (idle_fault call) none)
    (λ _. chosen LeavesWhole (eqb (used call.link).phase waiting && leb patience (elapsed call.time (used call.link).time))
    (λ _. in-phase-whole _)
    (λ _. used-whole call.link w))
    (λ _. w)

-- ---- from one call to the next

module _ (s : List ℕ) (bytes : (i : ℕ) → get_or s i 0 < 256) where
  -- what bytes hold is whole: bytes of another length hold an unknown phase
  pub held_whole : Whole (unpacked s)
  unfolding unpacked
  held_whole = by (eqb (length s) state_bytes) refl
    where
      by : (b : Bool) → eqb (length s) state_bytes ≡ b → Whole (cond b (fields s) (in_phase unknown_phase))
      by true e =
          let full : length s ≡ state_bytes = eqb-true _ _ e in
          record {
            eight = length-slice 12 20 s (omega arith);
            small = rw (← part-elements s 8 4 (omega arith)) (omega (arith, bytes 8, bytes 9, bytes 10, bytes 11));
          }
      by false e = in-phase-whole _

  -- of one received byte, in a call on the state that the bytes hold
  pub byte-carries : (call : ByteCall) → call.link ≡ unpacked s → call.time < 2 ^ 32
      → unpacked (packed (received call).step.link) ≡ (received call).step.link
  byte-carries call e h =
      let w = whole-after-byte call (rw e held_whole) h in
      unpacked-packed _ w.eight w.small

  -- of an idle call, which leaves no time but the one it found
  pub idle-carries : (call : IdleCall) → call.link ≡ unpacked s → unpacked (packed (idled call).link) ≡ (idled call).link
  idle-carries call e =
      let w = whole-after-idle call (rw e held_whole) in
      unpacked-packed _ w.eight w.small
