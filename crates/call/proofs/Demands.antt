-- Demand 1 on both Modbus lines, as claimed in specs/Demands.antt: what a call leaves alone.
-- Assumes nothing.
use mathlib.Core.Path.{◌≡◌, refl, sym, ap, subst⁻¹, ◌∙◌}
use mathlib.Core.Logic.{◌⊎◌, inl}
use mathlib.Core.Bool.{true, false}
use mathlib.Core.List.{List}
use Prim.Native.Nat.{ℕ, ◌<◌}
use native.Mathlib.Omega.{arith}
use lib.IntN.{ℤ}
use lib.ListN.{length}
use lib.Seq.{sets}
use Rattle.items.specs.ItemList.{item_at, in_range}
use Rattle.table.specs.Table.{entry, is_alarm_state, good_table, AlarmsTrue}
use Rattle.table.proofs.Laws.{good-entry, good-alarms}
use Rattle.modbus.specs.declared.Answered.{Answered}
use Rattle.modbus.specs.Outcome.{Outcome, unknown_function, silent}
use Rattle.modbus.specs.Promise.{Gives}
use Rattle.modbus.proofs.Laws.{number-leaves-table, number-silent, read-only-stays, stays-or-in-range, good-stays}
use Rattle.call.specs.Call.{Call, call_fault, sending, answered_as}
use Rattle.call.specs.Promise.{Untouched}
use Rattle.call.specs.Demands.{OfCall}
use Rattle.call.proofs.Answered.{fault-silent, every_call}

-- ---- silence

module _ {call : Call} {o : Outcome} {r : Answered} {after : List ℕ} {left : List ℤ}
    (g : Gives o r call.buffer after left) where
  -- a call that gives silence with this number touches nothing
  pub untouched : (number : ℕ) → o ≡ silent call.table number → Untouched number call r after left
  untouched number e =
      record {
        given = g.sends.given ∙ ap (λ (p : Outcome). p.number) e;
        silent = g.sends.len ∙ ap (λ (p : Outcome). length p.reply) e;
        buffer = g.sends.sent ∙ ap (λ (p : Outcome). sets call.buffer 0 p.reply) e;
        table = g.table ∙ ap (λ (p : Outcome). p.table) e;
      }

-- ---- demand 1

module _ (form : List ℕ → List ℕ) (call : Call) (fault : ℕ) (body : List ℕ) where
  abbrev answered : Outcome
  answered = answered_as form call fault body

  refused-silent : 0 < answered.number → answered.number < unknown_function → answered ≡ silent call.table answered.number
  refused-silent =
      every_call form call fault body
      (λ (o : Outcome). 0 < o.number → o.number < unknown_function → o ≡ silent call.table o.number)
      (λ number h k. refl)
      (λ h k. ap (sending form) (number-silent call.table call.address body (λ z. omega arith) (omega arith)))

  numbered-leaves : 0 < answered.number → answered.table ≡ call.table
  numbered-leaves =
      every_call form call fault body (λ (o : Outcome). 0 < o.number → o.table ≡ call.table) (λ number h. refl)
      (λ h. number-leaves-table call.table call.address body (λ z. omega arith))

  call-in-range : (j : ℕ) → (entry answered.table j ≡ entry call.table j) ⊎ (in_range j (entry answered.table j) ≡ true)
  call-in-range j =
      every_call form call fault body
      (λ (o : Outcome). (entry o.table j ≡ entry call.table j) ⊎ (in_range j (entry o.table j) ≡ true))
      (λ number. inl refl)
      (stays-or-in-range call.table call.address body j)

  pub call-read-only : (j : ℕ) → (item_at j).writable ≡ false → is_alarm_state j ≡ false → entry answered.table j ≡ entry call.table j
  call-read-only j h s =
      every_call form call fault body (λ (o : Outcome). entry o.table j ≡ entry call.table j) (λ number. refl)
      (read-only-stays call.table call.address body j h s)

  pub call-good : good_table call.table ≡ true → good_table answered.table ≡ true
  call-good g =
      every_call form call fault body (λ (o : Outcome). good_table o.table ≡ true) (λ number. g)
      (good-stays call.table call.address body g)

  -- every call that gives the outcome of a call meets demand 1
  pub demand-1-call : {r : Answered} {after : List ℕ} {left : List ℤ} → Gives answered r call.buffer after left
      → OfCall call r after left
  demand-1-call {r} {after} {left} g =
      let given : r.number ≡ answered.number = g.sends.given in
      record {
        fault_leaves_all = λ h. untouched g (call_fault call) (fault-silent form call fault body h);
        refusal_leaves_all = λ h k.
            untouched g r.number (refused-silent (omega arith) (omega arith) ∙ ap (silent call.table) (sym given));
        number_leaves_table = λ h. g.table ∙ numbered-leaves (omega arith);
        stays_or_in_range = λ j. rw g.table (call-in-range j);
        read_only_stays = λ j h s. rw g.table (call-read-only j h s);
        good_stays_good = λ h. rw g.table (call-good h);
        in_range_stays = λ h j k. rw g.table (good-entry _ j (call-good h) k);
        alarms_stay_true = λ h. subst⁻¹ AlarmsTrue g.table (good-alarms _ (call-good h));
      }
