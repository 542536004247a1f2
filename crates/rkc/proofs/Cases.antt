-- What the definitions of the steps give in each case, for the proofs of the functions that take that way.
-- Assumes nothing.
use Rattle.std.proofs.Common.{◌≡◌, ℕ, ◌+◌, ◌<◌, ◌≤◌, Bool, true, false, leb, List, [], ◌∷◌, map, length, ℤ, sym, refl, ap, ◌∙◌, subst, arith, eq-eqb, ne_eqb, le-leb, leb-true}
use mathlib.Core.Path.{subst⁻¹}
use borrow.Author.Tests.{lt-leb}
use Rattle.std.specs.Prelude.{Result, Ok, Err}
use Rattle.numbers.specs.declared.Refusal.{Refusal}
use Rattle.numbers.specs.Numbers.{none, unless, first_met, short_buffer, least_buffer, bad_setting}
use Rattle.numbers.specs.Refusals.{number_of}
use Rattle.numbers.proofs.Order.{this-first, not-met, none-at, last-met, test-held}
use Rattle.numbers.proofs.Refusals.{refusal-met}
use Rattle.table.specs.Table.{table_fault, xu_of, stored}
use Rattle.line.specs.Line.{ACK, NAK, sent, heard}
use Rattle.phases.specs.Phases as phases
use Rattle.phases.specs.Phases.{waiting}
use Rattle.phases.specs.declared.Act.{Act}
use Rattle.text.specs.Numbers.{width}
use Rattle.text.specs.Writing.{written_as}
use Rattle.block.specs.Block.{Judges, Verdict}
use Rattle.block.specs.declared.Setting.{Setting}
use Rattle.block.proofs.Laws.{stores, refuses}
use Rattle.rkc.specs.declared.Link.{Link}
use Rattle.rkc.specs.declared.Stepped.{Stepped}
use Rattle.rkc.specs.State.{in_phase, waiting_on, as_block, used, in_limits}
use Rattle.rkc.specs.Outcome.{Step, Outcome, keeping, silent, sends, quit, no_room, data_reply, item_text, with_text, item_sent, judged, performed, asked, handed_back, done}
use Rattle.rkc.specs.Outcome.{bad_state, step_fault, ByteCall, good_settings, byte_fault, received}
use Rattle.rkc.specs.Outcome.{IdleCall, elapsed, patience, timed_out, idle_fault, passed, idled}
use Rattle.rkc.specs.Promise.{Steps, Does}
use Rattle.rkc.proofs.Used.{used-phase, used-waiting, asked-used, performed-used}

-- an equal step, an equal outcome
pub steps-by : {s s' : Step} {r : Stepped} {b a : List ℕ} → s ≡ s' → Steps s' r b a → Steps s r b a
steps-by {r = r} {b = b} {a = a} e h = subst⁻¹ (λ (s : Step). Steps s r b a) e h

pub does-by : {o o' : Outcome} {r : Stepped} {b a : List ℕ} {t : List ℤ} → o ≡ o' → Does o' r b a t → Does o r b a t
does-by {r = r} {b = b} {a = a} {t = t} e h = subst⁻¹ (λ (o : Outcome). Does o r b a t) e h

-- what is performed for an equal act
pub done-by : (l : Link) {x y : Act} (t : List ℤ) (structure time : ℕ) → x ≡ y → performed l t structure time x ≡ performed l t structure time y
done-by l t structure time e = ap (performed l t structure time) e

-- ---- an item's number text fits, or not

module _ (structure time : ℕ) (t : List ℤ) (i : ℕ) (w : Result (List ℕ) Refusal) (e : written_as width w ≡ item_text t i) where
  pub item-fits : {six : List ℕ} → w ≡ Ok six
      → item_sent structure time t i
      ≡ record { link = waiting_on (i + 1) time; number = none; reply = map (sent structure) (data_reply i six) }
  unfolding item_sent
  item-fits q = rw (← e, q) refl

  pub item-too-long : ((six : List ℕ) → w ≡ Ok six → ⊥) → item_sent structure time t i ≡ quit structure no_room
  unfolding item_sent
  item-too-long n = rw (← e) (refused w n)
    where
      refused : (w : Result (List ℕ) Refusal) → ((six : List ℕ) → w ≡ Ok six → ⊥)
          → with_text structure time i (written_as width w) ≡ quit structure no_room
      refused (Ok six) n = absurd (n six refl)
      refused (Err r) n = simp (ne_eqb _ none (refusal-met r))

-- ---- a verdict on a block: a setting, or a refusal

module _ (structure : ℕ) (t : List ℤ) (l : Link) (c : ℕ) {v : Verdict} (j : Judges (xu_of t) l.mark l.bcc l.count l.kept c v) where
  pub judged-stored : {s : Setting} → v ≡ Ok s
      → judged structure t l c
      ≡ record { step = sends structure ACK (in_phase phases.answered) none; table = stored t s.place s.value }
  judged-stored {s} e =
      let k = stores (xu_of t) l.mark l.bcc l.count l.kept c s (subst (Judges (xu_of t) l.mark l.bcc l.count l.kept c) e j) in
      rw (k.1, k.2) (simp (eq-eqb _ _ k.0))

  pub judged_refused : {r : Refusal} → v ≡ Err r
      → judged structure t l c ≡ keeping t (sends structure NAK (in_phase phases.answered) (number_of r))
  judged_refused {r} e =
      let k = refuses (xu_of t) l.mark l.bcc l.count l.kept c r (subst (Judges (xu_of t) l.mark l.bcc l.count l.kept c) e j) in
      rw k.0 (simp (ne_eqb _ none k.1))

-- ---- the caller's faults

module _ (l : Link) (room : ℕ) (settings : Bool) where
  pub step-short : room < least_buffer → step_fault l room settings ≡ short_buffer
  unfolding step_fault
  step-short h = simp (lt-leb least_buffer room h)

  pub step-setting : least_buffer ≤ room → settings ≡ false → step_fault l room settings ≡ bad_setting
  unfolding step_fault
  step-setting h s = simp (le-leb least_buffer room h, s)

  pub step-outside : least_buffer ≤ room → settings ≡ true → in_limits l ≡ false → step_fault l room settings ≡ bad_state
  unfolding step_fault
  step-outside h s e = simp (le-leb least_buffer room h, s, e)

module _ (t : List ℤ) (step : ℕ) {f : ℕ} (e : f ≡ table_fault t) where
  pub table-first : (f ≡ none → ⊥) → first_met (table_fault t ∷ step ∷ []) ≡ f
  table-first n = rw (← e) (this-first f (first_met (step ∷ [])) n)

  pub step-next : f ≡ none → first_met (table_fault t ∷ step ∷ []) ≡ step
  step-next z = rw (← e) (not-met f (step ∷ []) z ∙ last-met step)

-- what a step is handed where none of its faults is met
pub record FineStep (l : Link) (room : ℕ) (settings : Bool) : Type 0 where
  pub roomy : least_buffer ≤ room
  pub set : settings ≡ true
  pub limits : in_limits l ≡ true

pub step-none : (l : Link) (room : ℕ) (settings : Bool) → step_fault l room settings ≡ none → FineStep l room settings
unfolding step_fault
step-none l room settings e =
    let ns = unless (leb least_buffer room) short_buffer ∷ unless settings bad_setting ∷ unless (in_limits l) bad_state ∷ [] in
    record {
      roomy = leb-true _ _ (test-held _ short_buffer (omega arith) (none-at ns 0 e));
      set = test-held _ bad_setting (omega arith) (none-at ns 1 e);
      limits = test-held _ bad_state (omega arith) (none-at ns 2 e);
    }

pub step-fine : (l : Link) (room : ℕ) (settings : Bool) → FineStep l room settings → step_fault l room settings ≡ none
unfolding step_fault
step-fine l room settings f = simp (le-leb least_buffer room f.roomy, f.set, f.limits)

-- and what a byte call is
pub record Fine (call : ByteCall) : Type 0 where
  pub table : table_fault call.table ≡ none
  pub step : FineStep call.link (length call.buffer) (good_settings call.address call.structure)

module _ (call : ByteCall) where
  byte_step : ℕ
  byte_step = step_fault call.link (length call.buffer) (good_settings call.address call.structure)

  pub byte-none : byte_fault call ≡ none → Fine call
  unfolding byte_fault byte_step
  byte-none e =
      let ns = table_fault call.table ∷ byte_step ∷ [] in
      record { table = none-at ns 0 e; step = step-none _ _ _ (none-at ns 1 e) }

  pub byte-fine : Fine call → byte_fault call ≡ none
  unfolding byte_fault byte_step
  byte-fine f = step-next call.table byte_step refl f.table ∙ step-fine _ _ _ f.step

-- ---- a received byte: a fault, or what was asked for

module _ (call : ByteCall) {f : ℕ} (e : f ≡ byte_fault call) where
  pub received-fault : (f ≡ none → ⊥) → received call ≡ keeping call.table (handed_back call.link f)
  unfolding received
  received-fault n = rw (← e) (simp (ne_eqb f none n))

  pub received-fine : f ≡ none → received call ≡ done call
  unfolding received
  received-fine z = rw (← e) (simp (eq-eqb f none z))

  -- the state itself is asked, and as a block it is what an act is performed in
  pub received-act : {c : ℕ} {x : Act} → f ≡ none → c ≡ heard call.structure call.byte → x ≡ asked call.link call.address c
      → received call ≡ performed (as_block call.link) call.table call.structure call.time x
  received-act z ec ex =
      let c = heard call.structure call.byte in
      received-fine z
      ∙ rw (ex, ec, asked-used call.link call.address c)
      (performed-used call.link call.table call.structure call.time call.address c)

-- ---- an idle call: a fault, another phase, too early, three seconds

module _ (call : IdleCall) {f : ℕ} (e : f ≡ idle_fault call) where
  pub idled-fault : (f ≡ none → ⊥) → idled call ≡ handed_back call.link f
  unfolding idled
  idled-fault n = rw (← e) (simp (ne_eqb f none n))

  pub idled-fine : f ≡ none → idled call ≡ passed (used call.link) call.structure call.time
  unfolding idled
  idled-fine z = rw (← e) (simp (eq-eqb f none z))

module _ (l : Link) (structure time : ℕ) where
  pub passed-other : (l.phase ≡ waiting → ⊥) → passed (used l) structure time ≡ silent (used l)
  passed-other n = simp (ne_eqb (used l).phase waiting (λ e. n (sym (used-phase l) ∙ e)))

  module _ {m : ℕ} (p : l.phase ≡ waiting) (q : m ≡ elapsed time l.time) where
    pub passed-early : leb patience m ≡ false → passed (used l) structure time ≡ silent (used l)
    passed-early h = rw (used-waiting l p) (simp (← q, h))

    pub passed-late : leb patience m ≡ true → passed (used l) structure time ≡ quit structure timed_out
    passed-late h = rw (used-waiting l p) (simp (← q, h))
