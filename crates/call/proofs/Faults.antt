-- What a call is refused for, case by case, and what is known of one that is not refused.
-- Assumes nothing.
use mathlib.Core.Path.{◌≡◌, sym, ◌∙◌}
use mathlib.Core.Bool.{Bool, true}
use Prim.Native.Nat.{ℕ, ◌≤◌}
use native.Mathlib.Omega.{arith}
use borrow.Author.Tests.{leb-true, le-leb}
use lib.Dec.{leb}
use lib.ListN.{length}
use Rattle.numbers.specs.Numbers.{none, unless, short_buffer, least_buffer, bad_setting}
use Rattle.numbers.proofs.Order.{this-first, next-first, neither-first, last-met, passed}
use Rattle.table.specs.Table.{table_fault}
use Rattle.call.specs.Call.{is_address, Call, call_fault, refusal}

-- ---- the caller's faults

module _ (call : Call) where
  -- where the table and the buffer are right, the address decides
  module _ (e : table_fault call.table ≡ none) (h : least_buffer ≤ length call.buffer) where
    pub call-address : {b : Bool} → b ≡ is_address call.address → call_fault call ≡ unless b bad_setting
    unfolding call_fault
    call-address a = next-first _ _ e ∙ rw (le-leb least_buffer (length call.buffer) h, ← a) (last-met _)

  -- what a call is whose caller made no fault
  pub record Fine : Type 0 where
    pub table : table_fault call.table ≡ none
    pub room : least_buffer ≤ length call.buffer
    pub address : is_address call.address ≡ true

  pub is-fine : call_fault call ≡ none → Fine
  unfolding call_fault
  is-fine e =
      let first = neither-first (table_fault call.table) _ e in
      let second = passed (leb least_buffer (length call.buffer)) short_buffer _ (omega arith) first.1 in
      record {
        table = first.0;
        room = leb-true least_buffer (length call.buffer) second.0;
        address = (passed (is_address call.address) bad_setting _ (omega arith) second.1).0;
      }

  pub no-fault : Fine → call_fault call ≡ none
  unfolding call_fault
  no-fault f = rw (f.table, le-leb least_buffer (length call.buffer) f.room, f.address)

-- ---- with the fault of what the line brought

module _ (call : Call) (fault : ℕ) where
  pub refused-call : (call_fault call ≡ none → ⊥) → refusal call fault ≡ call_fault call
  unfolding refusal
  refused-call = this-first _ _

  pub refused-fault : call_fault call ≡ none → refusal call fault ≡ fault
  unfolding refusal
  refused-fault e = next-first _ _ e ∙ last-met fault

  pub not-refused : refusal call fault ≡ none → (call_fault call ≡ none) × (fault ≡ none)
  unfolding refusal
  not-refused e =
      let n = neither-first (call_fault call) _ e in
      (n.0, sym (last-met fault) ∙ n.1)
