-- The numbers that a call gives: the caller's faults, what an act gives in a good table, and that each of them is given.
-- Assumes nothing.
use Rattle.std.specs.Prelude.{Option, Some, None}
use mathlib.Core.Path.{◌≡◌, refl, sym, ap, ◌∙◌}
use mathlib.Core.Bool.{Bool, true, false, cond, ◌&&◌, ◌||◌}
use mathlib.Core.List.{List, [], ◌∷◌}
use Prim.Native.Nat.{ℕ, suc, ◌-◌}
use native.Mathlib.Omega.{arith}
use borrow.Author.Tests.{eqb-true, eqb-false, le-leb}
use lib.Dec.{eqb, leb}
use lib.IntN.{ℤ}
use lib.ListN.{length}
use Rattle.numbers.specs.Numbers.{none, unless, short_buffer, least_buffer, bad_setting}
use Rattle.numbers.proofs.Tests.{contrary, both, chosen}
use Rattle.numbers.proofs.Order.{each}
use Rattle.items.specs.ItemList.{items, item_list, decimals_of, found, in_range}
use Rattle.items.proofs.Lists.{passes_at}
use Rattle.items.proofs.Lookup.{found-place}
use Rattle.table.specs.Table.{wrong_length, entry_outside, alarm, alarms_agree, all_in_range, table_fault, good_table, xu_of, start_values}
use Rattle.table.proofs.Decimals.{few-xu}
use Rattle.line.specs.Line.{keeps, heard}
use Rattle.text.specs.Reading.{read_number, read_value}
use Rattle.phases.specs.Decision.{decided}
use Rattle.phases.specs.Limits.{Limited}
use Rattle.phases.specs.declared.Act.{Act}
use Rattle.phases.proofs.Acts.{every-act}
use Rattle.block.specs.Block.{line_error, out_of_range, block_item, block_value, block_number}
use Rattle.block.proofs.Laws.{Refusing, block-refuses}
use Rattle.rkc.specs.declared.Link.{Link}
use Rattle.rkc.specs.State.{used, in_limits}
use Rattle.rkc.specs.Outcome.{Outcome, polled, refusing, judged, performed, asked, bad_state}
use Rattle.rkc.specs.Outcome.{step_fault, good_settings, ByteCall, byte_fault, received, IdleCall, idle_fault, idled}
use Rattle.demands.specs.Numbers.{one_of, byte_faults, byte_numbers, byte_examples, idle_faults, idle_examples}
use Rattle.demands.specs.Demands.{OfNumbers}
use Rattle.demands.proofs.Fits.{always-sent}

-- a test that each of some numbers passes, passes for one of them
abbrev pub all_pass : (ℕ → Bool) → List ℕ → Bool
all_pass p [] = true
all_pass p (m ∷ ms) = p m && all_pass p ms

pub one_passes : (p : ℕ → Bool) (ms : List ℕ) (n : ℕ) → all_pass p ms ≡ true → one_of ms n ≡ true → p n ≡ true
one_passes p [] n a e = contrary (sym e)
one_passes p (m ∷ ms) n a e =
    let b = both (p m) (all_pass p ms) a in
    by (λ f. one_passes p ms n b.1 f) b.0 (eqb n m) refl e
  where
    by : (one_of ms n ≡ true → p n ≡ true) → p m ≡ true → (b : Bool) → eqb n m ≡ b → (b || one_of ms n) ≡ true → p n ≡ true
    by later this true q f = ap p (eqb-true n m q) ∙ this
    by later this false q f = later f

-- ---- the caller's faults

-- a number that is met is one of these
abbrev IfMet : List ℕ → ℕ → Type 0
IfMet ms n = (n ≡ none → ⊥) → one_of ms n ≡ true

none-met : (ms : List ℕ) → IfMet ms none
none-met ms h = absurd (h refl)

tested : (ms : List ℕ) (test : Bool) (n : ℕ) → one_of ms n ≡ true → IfMet ms (unless test n)
tested ms true n e = none-met ms
tested ms false n e = λ _. e

table-fault : (t : List ℤ) → IfMet byte_faults (table_fault t)
unfolding table_fault
table-fault t =
    let alarms = unless (alarms_agree t) entry_outside ∷ [] in
    each _ (unless (all_in_range item_list t) entry_outside ∷ alarms) (IfMet byte_faults) (tested byte_faults (eqb (length t) items) wrong_length refl)
    (each _ alarms (IfMet byte_faults) (tested byte_faults (all_in_range item_list t) entry_outside refl)
    (each _ [] (IfMet byte_faults) (tested byte_faults (alarms_agree t) entry_outside refl) (none-met byte_faults)))

step-fault : (ms : List ℕ) → one_of ms short_buffer ≡ true → one_of ms bad_setting ≡ true → one_of ms bad_state ≡ true
    → (l : Link) (room : ℕ) (settings : Bool) → IfMet ms (step_fault l room settings)
unfolding step_fault
step-fault ms p q r l room settings =
    let last = unless (in_limits l) bad_state ∷ [] in
    each _ (unless settings bad_setting ∷ last) (IfMet ms) (tested ms (leb least_buffer room) short_buffer p)
    (each _ last (IfMet ms) (tested ms settings bad_setting q)
    (each _ [] (IfMet ms) (tested ms (in_limits l) bad_state r) (none-met ms)))

pub byte-faults : (call : ByteCall) → IfMet byte_faults (byte_fault call)
unfolding byte_fault
byte-faults call =
    let step = step_fault call.link (length call.buffer) (good_settings call.address call.structure) in
    each _ (step ∷ []) (IfMet byte_faults) (table-fault call.table)
    (each step [] (IfMet byte_faults)
    (step-fault byte_faults refl refl refl call.link (length call.buffer) (good_settings call.address call.structure))
    (none-met byte_faults))

pub idle-faults : (call : IdleCall) → IfMet idle_faults (idle_fault call)
unfolding idle_fault
idle-faults call = step-fault idle_faults refl refl refl call.link (length call.buffer) _

-- ---- what an act gives

-- 11 to 18
refused : (n : ℕ) → Refusing n → one_of byte_numbers n ≡ true
refused n r =
    rw (le-leb line_error n r.least) at
    (passes_at (λ (k : ℕ). cond (leb line_error k) (one_of byte_numbers k) true) (suc out_of_range) n refl (omega (arith, r.most)))

module _ (l : Link) (t : List ℤ) (good : good_table t ≡ true) (structure time : ℕ) where
  abbrev Numbered : Act → Type 0
  Numbered x = Limited items x → one_of byte_numbers (performed l t structure time x).step.number ≡ true

  polled-numbers : (a b : ℕ) (f : Option ℕ) → found a b ≡ f → one_of byte_numbers (polled structure time t f).number ≡ true
  polled-numbers a b (Some i) e = rw (always-sent i (found-place a b i e).0 structure time t good)
  polled-numbers a b None e = refl

  judged-numbers : (c : ℕ) → one_of byte_numbers (judged structure t l c).step.number ≡ true
  judged-numbers c =
      chosen (λ (o : Outcome). one_of byte_numbers o.step.number ≡ true) (eqb (refusing t l c) none) (λ _. refl)
      (λ e. refused (refusing t l c) (block-refuses (xu_of t) l.mark l.bcc l.count l.kept c (few-xu t) (eqb-false _ _ e)))

  pub act-numbers : (address c : ℕ) → Numbered (asked l address c)
  unfolding performed
  act-numbers address c =
      every-act Numbered (λ p _. refl) (λ a _. refl) (λ a b _. refl) (λ a b _. polled-numbers a b (found a b) refl)
      (λ item h. rw (always-sent (item - 1) (omega (arith, h.0, h.1)) structure time t good))
      (λ _. refl) (λ _. refl) (λ _. refl)
      items l.phase _ _ l.item address c (λ c _. refl) (λ _. refl) (λ c _. judged-numbers c)

-- ---- each number is given: the definitions compute

pub numbers-given : OfNumbers
unfolding found decimals_of in_range alarm table_fault start_values xu_of keeps heard read_number read_value decided block_item block_value block_number used in_limits performed step_fault byte_fault received idle_fault idled byte_examples idle_examples
numbers-given = record { by_bytes = refl; by_idles = refl }
