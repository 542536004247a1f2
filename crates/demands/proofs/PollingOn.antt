-- Polling on without the address: a character from 20H to 7EH while waiting begins a poll, which goes on like any other. The claim
-- stands in specs/Demands.antt.
-- Assumes nothing.
use mathlib.Core.Path.{◌≡◌, refl, sym, ap, ap₂, subst⁻¹, ◌∙◌}
use mathlib.Core.Bool.{true}
use mathlib.Core.List.{List}
use Prim.Native.Nat.{ℕ}
use borrow.Author.Tests.{eqb-false}
use lib.Dec.{leb, lit≤}
use lib.IntN.{ℤ}
use lib.Seq.{length-sets}
use Rattle.numbers.specs.Numbers.{none, last_address}
use Rattle.numbers.proofs.Tests.{both}
use Rattle.items.specs.ItemList.{items}
use Rattle.line.specs.Line.{last_structure, printable, heard}
use Rattle.phases.specs.Phases.{addressed, waiting}
use Rattle.phases.specs.declared.Act.{Act}
use Rattle.phases.specs.declared.Act.TheVariants.{First}
use Rattle.phases.proofs.Identifier.{first-waiting, first-addressed, second-character, enquiry}
use Rattle.rkc.specs.declared.Link.{Link}
use Rattle.rkc.specs.State.{holding_one, holding_two, as_block, used}
use Rattle.rkc.specs.Outcome.{Outcome, keeping, silent, performed, asked, ByteCall, byte_fault, received, idle_fault, passed, idled}
use Rattle.demands.specs.Demands.{next_byte, came, PollsOn, after_address, idle_after, OfPollingOn}
use Rattle.rkc.proofs.Cases.{step-fine, byte-none, byte-fine, received-act, idled-fine}
use Rattle.rkc.proofs.Limits.{in-phase-limits}
use Rattle.demands.proofs.Demands.{demand-1-byte}

-- ---- behind a call that led to a state in silence

module _ (call : ByteCall) (z : byte_fault call ≡ none) {t : List ℤ} {l : Link} (e : received call ≡ keeping t (silent l)) where
  link_left : (received call).step.link ≡ l
  link_left = ap (λ (o : Outcome). o.step.link) e

  -- the next byte asks that state
  next-byte : (time byte : ℕ) {x : Act} → asked l call.address (heard call.structure byte) ≡ x
      → received (next_byte call time byte) ≡ performed (as_block l) t call.structure time x
  next-byte time byte {x} a =
      let c = heard call.structure byte in
      received-act (next_byte call time byte) refl {x = x} ((demand-1-byte call).runs_on z time byte) refl
      (sym (ap (λ (k : Link). asked k call.address c) link_left ∙ a))
      ∙ ap₂ (λ (k : Link) (u : List ℤ). performed (as_block k) u call.structure time x) link_left (ap (λ (o : Outcome). o.table) e)

  idle-fine : (time : ℕ) → idle_fault (idle_after call time) ≡ none
  unfolding idle_fault
  idle-fine time =
      let f = (byte-none call z).step in
      step-fine _ _ _ (record {
        roomy = rw (length-sets call.buffer 0 (received call).step.reply) f.roomy;
        set = (both (leb call.address last_address) (leb call.structure last_structure) f.set).1;
        limits = (demand-1-byte call).stays_in_limits z;
      })

  -- an idle call leaves it where it does so by the state alone
  next-idle : (time : ℕ) → passed (used l) call.structure time ≡ silent l
      → idled (idle_after call time) ≡ silent (received call).step.link
  next-idle time h =
      idled-fine (idle_after call time) refl (idle-fine time)
      ∙ subst⁻¹ (λ (k : Link). passed (used k) call.structure time ≡ silent k) link_left h

-- ---- the characters of an identifier

module _ (call : ByteCall) (p : PollsOn call) where
  after-address-fine : byte_fault (after_address call) ≡ none
  after-address-fine =
      let f = byte-none call p.no_fault in
      byte-fine (after_address call) (record {
        table = f.table;
        step = record {
          roomy = f.step.roomy;
          set = f.step.set;
          limits = in-phase-limits addressed (lit≤ tt) (eqb-false addressed waiting refl);
        };
      })

  first-kept : received call ≡ keeping call.table (silent (holding_one (came call)))
  unfolding performed
  first-kept =
      received-act call refl {x = First (came call)} p.no_fault refl
      (rw p.while_waiting (sym (first-waiting items _ _ _ call.address (came call) p.is_printable)))

  first-addressed-kept : received (after_address call) ≡ keeping call.table (silent (holding_one (came call)))
  unfolding performed
  first-addressed-kept =
      received-act (after_address call) refl after-address-fine refl
      (sym (first-addressed items _ _ _ call.address (came call) p.is_printable))

  second-fine : (time byte : ℕ) → byte_fault (next_byte call time byte) ≡ none
  second-fine = (demand-1-byte call).runs_on p.no_fault

  second-kept : (time byte : ℕ) → printable (heard call.structure byte) ≡ true
      → received (next_byte call time byte) ≡ keeping call.table (silent (holding_two (came call) (heard call.structure byte)))
  unfolding performed
  second-kept time byte e =
      next-byte call p.no_fault first-kept time byte
      (second-character items (came call) _ _ call.address (heard call.structure byte) e)

  pub polls-on : OfPollingOn call
  unfolding performed used
  polls-on = record {
    first_kept = first-kept;
    as_addressed = first-kept ∙ sym first-addressed-kept;
    polls = λ t u second third e q.
        next-byte (next_byte call t second) (second-fine t second) (second-kept t second e) u third
        (enquiry items (came call) (heard call.structure second) _ call.address (heard call.structure third) q);
    no_limit_after_first = λ time. next-idle call p.no_fault first-kept time refl;
    no_limit_after_second = λ t second time e.
        next-idle (next_byte call t second) (second-fine t second) (second-kept t second e) time refl;
  }
