-- What the steps of the link hand back is never for bytes of another length, unless with one of the caller's faults.
-- Assumes nothing.
use mathlib.Core.Path.{◌≡◌, refl, sym, ◌∙◌}
use mathlib.Core.Bool.{Bool, true, false, cond}
use mathlib.Core.List.{List}
use Prim.Native.Nat.{ℕ}
use borrow.Author.Tests.{eqb-true, eqb-false}
use lib.Dec.{eqb}
use lib.ListN.{length}
use Rattle.numbers.specs.Numbers.{none}
use Rattle.numbers.proofs.Tests.{contrary}
use Rattle.rkc.specs.State.{in_phase, in_limits}
use Rattle.rkc.specs.Outcome.{Step, Outcome, ByteCall, byte_fault, received, IdleCall, idle_fault, idled}
use Rattle.demands.specs.Numbers.{byte_faults, idle_faults}
use Rattle.rkc.proofs.Cases.{step-none, byte-none}
use Rattle.demands.proofs.Given.{one_passes, byte-faults, idle-faults}
use Rattle.state.specs.State.{state_bytes, fields, unknown_phase, unpacked}
use Rattle.panel.specs.Calls.{is_call_fault}

-- bytes of another length hold a state outside its limits
in-limits-whole : (s : List ℕ) → in_limits (unpacked s) ≡ true → length s ≡ state_bytes
unfolding unpacked in_limits
in-limits-whole s h = by (eqb (length s) state_bytes) refl h
  where
    by : (b : Bool) → eqb (length s) state_bytes ≡ b → in_limits (cond b (fields s) (in_phase unknown_phase)) ≡ true → length s ≡ state_bytes
    by true e k = eqb-true _ _ e
    by false e k = contrary (sym k)

-- whatever is handed back, with a number: x where there is no fault f, and else y, which has the fault's number
module _ (s : List ℕ) (f : ℕ) (fault : (f ≡ none → ⊥) → is_call_fault f ≡ true) (fine : f ≡ none → in_limits (unpacked s) ≡ true) where
  whole_by : {A : Type 0} (number : A → ℕ) (x y : A) → number y ≡ f → is_call_fault (number (cond (eqb f none) x y)) ≡ false
      → length s ≡ state_bytes
  whole_by number x y ey = by (eqb f none) refl
    where
      by : (b : Bool) → eqb f none ≡ b → is_call_fault (number (cond b x y)) ≡ false → length s ≡ state_bytes
      by true e k = in-limits-whole s (fine (eqb-true _ _ e))
      by false e k = contrary (sym (fault (eqb-false _ _ e)) ∙ (rw ey at k))

-- ---- the two calls, on the state that the bytes hold

pub received-whole : (s : List ℕ) (call : ByteCall) → call.link ≡ unpacked s → is_call_fault (received call).step.number ≡ false → length s ≡ state_bytes
unfolding received
received-whole s call e =
    whole_by s (byte_fault call) (λ n. one_passes is_call_fault byte_faults (byte_fault call) refl (byte-faults call n))
    (λ z. rw (← e) (byte-none call z).step.limits) (λ (o : Outcome). o.step.number) _ _ refl

pub idled-whole : (s : List ℕ) (call : IdleCall) → call.link ≡ unpacked s → is_call_fault (idled call).number ≡ false → length s ≡ state_bytes
unfolding idled idle_fault
idled-whole s call e =
    whole_by s (idle_fault call) (λ n. one_passes is_call_fault idle_faults (idle_fault call) refl (idle-faults call n))
    (λ z. rw (← e) (step-none _ _ _ z).limits) (λ (o : Step). o.number) _ _ refl
