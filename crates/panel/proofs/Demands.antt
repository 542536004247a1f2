-- Demand 1 holds of the C functions of the RKC line: what the link's own claims say of a step is seen in the result and in the
-- bytes that are held.
-- Assumes nothing.
use mathlib.Core.Path.{◌≡◌, refl, ap, subst, subst⁻¹, ◌∙◌}
use mathlib.Core.Bool.{true, not}
use mathlib.Core.List.{List}
use Prim.Native.Nat.{ℕ, ◌^◌, ◌<◌}
use native.Mathlib.Omega.{arith}
use borrow.Author.Tests.{not-true, ltb-true}
use lib.Dec.{ltb}
use lib.IntN.{ℤ}
use Rattle.crc.specs.Crc.{Bytes}
use Rattle.rkc.specs.declared.Link.{Link}
use Rattle.table.specs.Table.{entry, good_table, AlarmsTrue}
use Rattle.rkc.specs.Outcome.{Step, Outcome, handed_back, ByteCall, byte_fault, received, IdleCall, idle_fault, idled}
use Rattle.demands.specs.Numbers.{one_of, byte_faults, byte_numbers, idle_faults, idle_numbers}
use Rattle.rkc.proofs.Cases.{received-fault, idled-fault}
use Rattle.demands.proofs.Given.{all_pass, one_passes, byte-faults, idle-faults}
use Rattle.demands.proofs.Demands.{demand-1-byte, demand-1-idle}
use Rattle.state.specs.State.{unpacked, packed}
use Rattle.state.proofs.Carries.{byte-carries, idle-carries}
use Rattle.panel.specs.Calls.{is_call_fault}
use Rattle.panel.specs.Promise.{StepLeft, ByteLeft}
use Rattle.panel.specs.Demands.{number_in, OfVbByte, OfVbIdle}

-- ---- any step

module _ {step : Step} {r : ℕ} {state held before after : List ℕ} (p : StepLeft step r state held before after) where
  -- the number in the result is the step's
  number-in : (ms : List ℕ) → all_pass (λ n. ltb n 256) ms ≡ true → one_of ms step.number ≡ true → one_of ms (number_in r) ≡ true
  number-in ms small one =
      let below : step.number < 256 = ltb-true step.number 256 (one_passes (λ n. ltb n 256) ms step.number small one) in
      let given = p.given in
      let same : number_in r ≡ step.number = omega arith in
      rw same one

  -- the caller's fault is the result, and state and buffer are as they came
  fault-leaves : {l : Link} {f : ℕ} → step ≡ handed_back l f → is_call_fault f ≡ true → (r ≡ f) × (held ≡ state) × (after ≡ before)
  fault-leaves {l} {f} e fault =
      let q = subst (λ (s : Step). StepLeft s r state held before after) e p in
      let given = q.given in
      (omega arith, q.holds ∙ rw fault, q.sent)

  -- without a fault the bytes hold the state that the step handed back
  holds-state : (ms : List ℕ) → all_pass (λ n. not (is_call_fault n)) ms ≡ true → one_of ms step.number ≡ true → held ≡ packed step.link
  holds-state ms fine one =
      p.holds ∙ rw (not-true (is_call_fault step.number) (one_passes (λ n. not (is_call_fault n)) ms step.number fine one))

-- ---- the two functions

module _ (state : List ℕ) (bytes : Bytes state) (call : ByteCall) {r : ℕ} {held after : List ℕ} {left : List ℤ}
    (on : call.link ≡ unpacked state) (h : call.time < 2 ^ 32) (p : ByteLeft (received call) r state held call.buffer after left) where
  pub demand-1-vb-byte : OfVbByte state call r held after left
  demand-1-vb-byte =
      let d = demand-1-byte call in
      let s = p.step in
      record {
        fault_leaves_all = λ n.
            let e = received-fault call refl n in
            let fault = one_passes is_call_fault byte_faults (byte_fault call) refl (byte-faults call n) in
            let q = fault-leaves s (ap (λ (o : Outcome). o.step) e) fault in
            (q.0, q.1, q.2, p.left ∙ ap (λ (o : Outcome). o.table) e);
        fault_numbers = λ n. number-in s byte_faults refl (d.fault_numbers n);
        other_numbers = λ z. number-in s byte_numbers refl (d.other_numbers z);
        next_reads = λ z. ap unpacked (holds-state s byte_numbers refl (d.other_numbers z)) ∙ byte-carries state bytes call on h;
        stays_or_in_range = λ j. rw p.left (d.stays_or_in_range j);
        read_only_stays = λ j w s. ap (λ (t : List ℤ). entry t j) p.left ∙ d.read_only_stays j w s;
        good_stays_good = λ g. ap good_table p.left ∙ d.good_stays_good g;
        alarms_stay_true = λ g. subst⁻¹ AlarmsTrue p.left (d.alarms_stay_true g);
      }

module _ (state : List ℕ) (bytes : Bytes state) (call : IdleCall) {r : ℕ} {held after : List ℕ} (on : call.link ≡ unpacked state)
    (p : StepLeft (idled call) r state held call.buffer after) where
  pub demand-1-vb-idle : OfVbIdle state call r held after
  demand-1-vb-idle =
      let d = demand-1-idle call in
      record {
        fault_leaves_all = λ n.
            fault-leaves p (idled-fault call refl n) (one_passes is_call_fault idle_faults (idle_fault call) refl (idle-faults call n));
        fault_numbers = λ n. number-in p idle_faults refl (d.fault_numbers n);
        other_numbers = λ z. number-in p idle_numbers refl (d.other_numbers z);
        next_reads = λ z. ap unpacked (holds-state p idle_numbers refl (d.other_numbers z)) ∙ idle-carries state bytes call on;
      }
