-- Demand 1 for the RKC line, and that a link runs for ever and answers in the line's structure: theorems about every call. Their
-- claims stand in specs/Demands.antt.
-- Assumes nothing.
use mathlib.Core.Path.{◌≡◌, refl, sym, subst}
use mathlib.Core.Logic.{◌≢◌, ◌⊎◌, inl}
use mathlib.Core.Bool.{Bool, true, false, not, ◌&&◌}
use mathlib.Core.List.{List, [], ◌∷◌, map}
use Prim.Native.Nat.{ℕ}
use borrow.Author.Tests.{eq-eqb, eqb-true, not-true}
use lib.Dec.{eqb, leb}
use lib.IntN.{ℤ}
use lib.ListN.{length}
use lib.Seq.{length-sets}
use lib.Signed.{le_z}
use Rattle.numbers.specs.Numbers.{none}
use Rattle.numbers.proofs.Tests.{contrary, chosen}
use Rattle.numbers.proofs.Order.{either_way}
use Rattle.items.specs.ItemList.{items, item_at, decimals_of, in_range}
use Rattle.table.specs.Table as table
use Rattle.table.specs.Table.{good_table, entry, stored, IsTrue}
use Rattle.table.proofs.Laws.{good-alarms, good-stored, stored-in-range, stored-read-only}
use Rattle.line.specs.Line.{within, sent, heard, last_structure}
use Rattle.line.proofs.Parity.{sent-keeps}
use Rattle.text.specs.Numbers.{width}
use Rattle.text.specs.Writing.{fits, text, write_number, accepted, written}
use Rattle.phases.specs.Phases.{waiting}
use Rattle.phases.specs.Limits.{Limited}
use Rattle.phases.specs.declared.Act.{Act}
use Rattle.phases.specs.declared.Act.TheVariants.{Go, First, Both, More, Ended, Quit, Poll, Send, Judge}
use Rattle.block.proofs.Laws.{block-stores}
use Rattle.rkc.specs.declared.Link.{Link}
use Rattle.rkc.specs.State.{used, in_limits}
use Rattle.rkc.specs.Outcome.{Step, Outcome, keeping, silent, quit, data_reply, item_sent, refusing, judged, performed, asked, handed_back, done}
use Rattle.rkc.specs.Outcome.{ByteCall, byte_fault, received, IdleCall, elapsed, patience, timed_out, idle_fault, passed, idled}
use Rattle.rkc.specs.Promise.{Steps, Does}
use Rattle.demands.specs.Numbers.{one_of, byte_numbers, idle_numbers}
use Rattle.demands.specs.Demands.{all_keep, next_byte, OfByte, OfIdle, state_text, OfAlarms}
use Rattle.rkc.proofs.Cases.{FineStep, step-none, step-fine, byte-none, byte-fine, received-fault, received-fine, idled-fault}
use Rattle.rkc.proofs.Limits.{used-small, asked-limited, performed-limits, used-in-limits}
use Rattle.demands.proofs.EachReply.{received-reply, idled-reply}
use Rattle.demands.proofs.Given.{one_passes, byte-faults, idle-faults, act-numbers}

-- ---- what an act leaves of the table

module _ (l : Link) (t : List ℤ) (structure time : ℕ) where
  -- every act but the judging of a block keeps the table
  kept-or-judged : (x : Act) (P : Outcome → Type 0) → ((s : Step) → P (keeping t s)) → ((c : ℕ) → P (judged structure t l c))
      → P (performed l t structure time x)
  unfolding performed
  kept-or-judged (Go phase) P same block = same _
  kept-or-judged (First a) P same block = same _
  kept-or-judged (Both a b) P same block = same _
  kept-or-judged (More c) P same block = same _
  kept-or-judged Ended P same block = same _
  kept-or-judged (Quit refusal) P same block = same _
  kept-or-judged (Poll a b) P same block = same _
  kept-or-judged (Send item) P same block = same _
  kept-or-judged (Judge c) P same block = block c

  -- and a block leaves it too, or stores a value in its range in a writable item
  leaves : (x : Act) (P : List ℤ → Type 0) → P t
      → ((i : ℕ) (v : ℤ) → (item_at i).writable ≡ true → in_range i v ≡ true → P (stored t i v))
      → P (performed l t structure time x).table
  leaves x P same new =
      kept-or-judged x (λ (o : Outcome). P o.table) (λ s. same)
      (λ c. chosen (λ (o : Outcome). P o.table) (eqb (refusing t l c) none)
      (λ e. let s = block-stores (table.xu_of t) l.mark l.bcc l.count l.kept c (eqb-true _ _ e) in new _ _ s.writable s.ranged)
      (λ _. same))

  -- where a number is given the table stays
  abbrev StaysIfMet : Outcome → Type 0
  StaysIfMet o = o.step.number ≢ none → o.table ≡ t

  numbered-stays : (x : Act) → StaysIfMet (performed l t structure time x)
  numbered-stays x =
      kept-or-judged x StaysIfMet (λ s _. refl)
      (λ c. chosen StaysIfMet (eqb (refusing t l c) none) (λ _ h. absurd (h refl)) (λ _ _. refl))

-- ---- what is sent

sent-all-keep : (structure : ℕ) (cs : List ℕ) → all_keep structure (map (sent structure) cs) ≡ true
sent-all-keep structure [] = refl
sent-all-keep structure (c ∷ cs) = rw (sent-keeps structure c) (sent-all-keep structure cs)

one-keeps : (structure c : ℕ) → all_keep structure (sent structure c ∷ []) ≡ true
one-keeps structure c = rw (sent-keeps structure c)

-- ---- one received byte

module _ (call : ByteCall) where
  -- a claim about an outcome: of a fault, and of what was asked for
  by-outcome : (P : Outcome → Type 0)
      → (byte_fault call ≢ none → P (keeping call.table (handed_back call.link (byte_fault call))))
      → (byte_fault call ≡ none → P (done call))
      → P (received call)
  unfolding received
  by-outcome = either_way (byte_fault call) (λ number. keeping call.table (handed_back call.link number)) (done call)

  -- the act that is asked for is limited
  limited : byte_fault call ≡ none → Limited items (asked (used call.link) call.address (heard call.structure call.byte))
  limited z = asked-limited call.link (byte-none call z).step.limits call.address (heard call.structure call.byte)

  after : byte_fault call ≡ none → in_limits (received call).step.link ≡ true
  after z =
      rw (received-fine call refl z)
      (performed-limits (used call.link) call.table call.structure call.time _
      (used-small call.link (byte-none call z).step.limits)
      (limited z))

  -- what holds of the table as it came and after a store in range in a writable item
  pub of-table : (P : List ℤ → Type 0) → P call.table
      → ((i : ℕ) (v : ℤ) → (item_at i).writable ≡ true → in_range i v ≡ true → P (stored call.table i v))
      → P (received call).table
  of-table P same new =
      by-outcome (λ (o : Outcome). P o.table) (λ _. same)
      (λ _. leaves (used call.link) call.table call.structure call.time _ P same new)

  good-after : good_table call.table ≡ true → good_table (received call).table ≡ true
  good-after g = of-table (λ (u : List ℤ). good_table u ≡ true) g (λ i v w r. good-stored call.table i v g r)

  numbers : byte_fault call ≡ none → one_of byte_numbers (received call).step.number ≡ true
  numbers z =
      rw (received-fine call refl z)
      (act-numbers (used call.link) call.table (eq-eqb _ _ (byte-none call z).table) call.structure call.time
      call.address (heard call.structure call.byte) (limited z))

  pub demand-1-byte : OfByte call
  demand-1-byte = record {
    fault_leaves_all = λ n r after left p.
        let q = subst (λ (o : Outcome). Does o r call.buffer after left) (received-fault call refl n) p in
        (q.steps.back, q.steps.sent, q.left);
    fault_numbers = λ n. rw (received-fault call refl n) (byte-faults call n);
    other_numbers = λ z. numbers z;
    no_fault_number = λ z.
        not-true _ (one_passes (λ (n : ℕ). not (within 1 9 n)) byte_numbers (received call).step.number refl (numbers z));
    always_room = λ z e. contrary (sym (rw e at (numbers z)));
    number_leaves_table = by-outcome (λ (o : Outcome). o.step.number ≢ none → o.table ≡ call.table) (λ _ _. refl)
        (λ _. numbered-stays (used call.link) call.table call.structure call.time _);
    stays_or_in_range = λ j.
        of-table (λ (u : List ℤ). (entry u j ≡ entry call.table j) ⊎ (in_range j (entry u j) ≡ true)) (inl refl)
        (λ i v w r. stored-in-range call.table i j v r);
    read_only_stays = λ j r s.
        of-table (λ (u : List ℤ). entry u j ≡ entry call.table j) refl
        (λ i v w g. stored-read-only call.table i j v w r s);
    good_stays_good = λ g. good-after g;
    alarms_stay_true = λ g. good-alarms (received call).table (good-after g);
    stays_in_limits = λ z. after z;
    runs_on = λ z time byte.
        let f = byte-none call z in
        byte-fine (next_byte call time byte) (record {
          table = eqb-true _ _ (good-after (eq-eqb _ _ f.table));
          step = record {
            roomy = rw (length-sets call.buffer 0 (received call).step.reply) f.step.roomy;
            set = f.step.set;
            limits = after z;
          };
        });
    keeps_structure = received-reply (λ (r : List ℕ). all_keep call.structure r ≡ true) refl call (one-keeps call.structure)
        (λ i six e. sent-all-keep call.structure (data_reply i six));
  }

-- ---- an idle call

module _ (call : IdleCall) where
  by-step : (P : Step → Type 0)
      → (idle_fault call ≢ none → P (handed_back call.link (idle_fault call)))
      → (idle_fault call ≡ none → P (quit call.structure timed_out))
      → (idle_fault call ≡ none → P (silent (used call.link)))
      → P (idled call)
  unfolding idled
  by-step P fault late early =
      either_way (idle_fault call) (handed_back call.link) (passed (used call.link) call.structure call.time) P fault
      (λ z. chosen P (eqb (used call.link).phase waiting && leb patience (elapsed call.time (used call.link).time))
      (λ _. late z)
      (λ _. early z))

  idle-fine : idle_fault call ≡ none → FineStep call.link (length call.buffer) (leb call.structure last_structure)
  unfolding idle_fault
  idle-fine z = step-none call.link (length call.buffer) (leb call.structure last_structure) z

  idle-after : idle_fault call ≡ none → in_limits (idled call).link ≡ true
  unfolding in_limits
  idle-after z =
      by-step (λ (s : Step). in_limits s.link ≡ true) (λ n. absurd (n z)) (λ z. refl)
      (λ z. used-in-limits call.link (idle-fine z).limits)

  pub demand-1-idle : OfIdle call
  unfolding idle_fault
  demand-1-idle = record {
    fault_leaves_all = λ n r after p.
        let q = subst (λ (s : Step). Steps s r call.buffer after) (idled-fault call refl n) p in
        (q.back, q.sent);
    fault_numbers = λ n. rw (idled-fault call refl n) (idle-faults call n);
    other_numbers = λ z.
        by-step (λ (s : Step). one_of idle_numbers s.number ≡ true) (λ n. absurd (n z)) (λ _. refl) (λ _. refl);
    stays_in_limits = λ z. idle-after z;
    runs_on = λ z time.
        let f = idle-fine z in
        step-fine _ _ (leb call.structure last_structure)
        (record { roomy = rw (length-sets call.buffer 0 (idled call).reply) f.roomy; set = f.set; limits = idle-after z });
    keeps_structure = idled-reply (λ (r : List ℕ). all_keep call.structure r ≡ true) refl call (one-keeps call.structure);
  }

-- ---- the alarm states on the line

-- the number text of a true alarm state
alarm-text : (t : List ℤ) (state limit : ℕ) (b : Bool) → le_z (entry t limit) (entry t table.M1) ≡ b → IsTrue t state limit
    → written width 0 (table.answered t state) ≡ accepted (state_text b)
unfolding table.answered written write_number fits text
alarm-text t state limit true e s = rw (s.on e)
alarm-text t state limit false e s = rw (s.off e)

pub alarms-polled : (structure time : ℕ) (t : List ℤ) → OfAlarms structure time t
unfolding decimals_of item_sent
alarms-polled structure time t = record {
  polled_aa = λ g. rw (alarm-text t table.AA table.A1 _ refl (good-alarms t g).alarm1);
  polled_ab = λ g. rw (alarm-text t table.AB table.A2 _ refl (good-alarms t g).alarm2);
}
