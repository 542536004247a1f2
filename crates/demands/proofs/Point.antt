-- The decimal point chosen on site: what is claimed in specs/Point.antt.
-- Assumes nothing.
use Rattle.std.specs.Prelude.{Ok}
use mathlib.Core.Path.{◌≡◌, refl, sym, ap, ◌∙◌}
use mathlib.Core.Logic.{◌≢◌}
use mathlib.Core.Bool.{Bool, true, false, cond}
use mathlib.Core.List.{List, ◌∷◌}
use Prim.Native.Nat.{ℕ, ◌<◌, ◌≤◌}
use native.Mathlib.Omega.{arith}
use borrow.Author.Tests.{eqb-true, eqb-false}
use lib.Dec.{eqb}
use lib.IntN.{ℤ}
use lib.Seq.{take_all}
use Rattle.numbers.specs.Numbers.{none}
use Rattle.numbers.proofs.Tests.{chosen}
use Rattle.items.specs.ItemList.{items, item_at, by_xu, decimals_of, found, in_range}
use Rattle.items.proofs.Lists.{writable-listed}
use Rattle.items.proofs.Lookup.{named-place}
use Rattle.table.specs.Table.{entry, XU, alarm, alarms_kept, good_table, start_values, answered, xu_of, stored, SameButXU}
use Rattle.table.proofs.Laws.{good-entry, stored_other, stored-but-xu, stored-own}
use Rattle.table.proofs.Decimals.{few-xu}
use Rattle.line.specs.Line.{ACK, is_line_error}
use Rattle.text.specs.Numbers.{width, most_decimals}
use Rattle.text.specs.Reading.{read_number, read_value}
use Rattle.text.specs.Writing.{fits, text, write_number, written}
use Rattle.text.specs.Writing.{Written}
use Rattle.text.specs.Demands.{without_point, RoundTrip}
use Rattle.text.proofs.Point.{point-alone}
use Rattle.text.proofs.RoundTrip.{demand-2}
use Rattle.text.proofs.Texts.{fitting, written-length}
use Rattle.phases.specs.Phases as phases
use Rattle.block.specs.Block.{most_kept, block_item, data_characters, block_number, block_value, Judges}
use Rattle.block.proofs.Laws.{few-decimals, block-stores}
use Rattle.block.proofs.Cases as block
use Rattle.rkc.specs.declared.Link.{Link}
use Rattle.rkc.specs.State.{in_phase}
use Rattle.rkc.specs.Outcome.{Outcome, item_text, sends, refusing, judged, ByteCall, received}
use Rattle.rkc.proofs.Cases.{judged-stored}
use Rattle.demands.specs.Point.{text_at, echoed, OfPoint, PointExamples}
use Rattle.demands.proofs.Fits.{entry-fits, always-sent}
use Rattle.demands.proofs.Demands.{of-table}

-- ---- the text of an item

reads-back : (t : List ℤ) (i xu : ℕ) → good_table t ≡ true → i < items → xu ≤ most_decimals → RoundTrip width (decimals_of xu i) (entry t i)
reads-back t i xu g h few = demand-2 width (decimals_of xu i) (entry t i) (omega arith) (few-decimals xu i few) (entry-fits i h xu few t g)

digits_alike : (i : ℕ) (v : ℤ) (xu other : ℕ) → 1 ≤ xu → 1 ≤ other
    → without_point (text width (decimals_of xu i) v) ≡ without_point (text width (decimals_of other i) v)
unfolding decimals_of
digits_alike i v xu other h k = by (eqb (item_at i).decimals by_xu)
  where
    by : (b : Bool)
        → without_point (text width (cond b xu (item_at i).decimals) v) ≡ without_point (text width (cond b other (item_at i).decimals) v)
    by true = point-alone width xu other v h k
    by false = refl

-- what is written of an item of a good table are these characters
text_sent_at : (t : List ℤ) (i xu : ℕ) → good_table t ≡ true → i < items → xu ≤ most_decimals → text_at xu t i ≡ text width (decimals_of xu i) (entry t i)
text_sent_at t i xu g h few =
    ap (λ (w : Written). w.chars) (fitting width (decimals_of xu i) (entry t i) (few-decimals xu i few) (entry-fits i h xu few t g))

-- ---- sent back

module _ (t : List ℤ) (i bcc : ℕ) (g : good_table t ≡ true) (w : (item_at i).writable ≡ true) (heard : is_line_error bcc ≡ false) where
  abbrev kept : List ℕ
  kept = (item_at i).first ∷ (item_at i).second ∷ (item_text t i).chars

  item : block_item kept ≡ i
  unfolding block_item
  item = named-place i (writable-listed i w)

  characters : data_characters most_kept kept ≡ (item_text t i).chars
  characters = take_all width (item_text t i).chars (omega (arith, written-length width (decimals_of (xu_of t) i) (answered t i) (omega arith)))

  trip : RoundTrip width (decimals_of (xu_of t) i) (answered t i)
  unfolding answered
  trip = reads-back t i (xu_of t) g (writable-listed i w) (few-xu t)

  verdict : Judges (xu_of t) false bcc most_kept kept bcc (Ok (record { place = i; value = entry t i }))
  unfolding answered
  verdict =
      block.stored
      (record { heard = heard; same = refl; two = omega arith; item = rw item (writable-listed i w) })
      (record { whole = omega arith; read = record { number = rw (item, characters) (sym trip.is_read); value = rw (item, characters) (sym trip.same) } })
      (rw item w)
      (rw item (good-entry t i g (writable-listed i w)))
      (sym item)
      refl

-- ---- what a block to XU and a byte change

block-alone : (structure : ℕ) (t : List ℤ) (l : Link) (c : ℕ) → good_table t ≡ true → block_item l.kept ≡ XU
    → SameButXU t (judged structure t l c).table
block-alone structure t l c g at =
    chosen (λ (o : Outcome). SameButXU t o.table) (eqb (refusing t l c) none)
    (λ e. let s = block-stores (xu_of t) l.mark l.bcc l.count l.kept c (eqb-true _ _ e) in
    rw at (stored-but-xu t _ g (rw at at s.ranged)))
    (λ _. record { long = refl; others = λ j other. refl })

module _ (call : ByteCall) (g : good_table call.table ≡ true) where
  abbrev Alone : List ℤ → Type 0
  Alone u = entry u XU ≢ entry call.table XU → SameButXU call.table u

  stored-alone : (i : ℕ) (v : ℤ) → in_range i v ≡ true → Alone (stored call.table i v)
  stored-alone i v r n = by (eqb i XU) refl
    where
      by : (b : Bool) → eqb i XU ≡ b → SameButXU call.table (stored call.table i v)
      by true e = let at = eqb-true i XU e in rw at (stored-but-xu call.table v g (rw at at r))
      by false e = absurd (n (stored_other call.table i XU v refl (λ z. eqb-false i XU e (sym z))))

  changes-alone : Alone (received call).table
  changes-alone = of-table call Alone (λ n. absurd (n refl)) (λ i v _ r. stored-alone i v r)

-- ---- the claims

pub point-claimed : OfPoint
unfolding decimals_of
point-claimed = record {
  reads_back = reads-back;
  same_digits = λ t i xu other g h some few some-other few-other.
      ap without_point (text_sent_at t i xu g h few) ∙ digits_alike i (entry t i) xu other some some-other
      ∙ sym (ap without_point (text_sent_at t i other g h few-other));
  always_sent = λ structure time t i g h. always-sent i h structure time t g;
  sent_back = λ structure t i bcc g w heard.
      judged-stored structure t (echoed t i bcc) bcc (verdict t i bcc g w heard) refl
      ∙ ap (λ (u : List ℤ). record { step = sends structure ACK (in_phase phases.answered) none; table = u }) (stored-own t i g (writable-listed i w));
  itself = λ xu kept e. rw e;
  block_alone = block-alone;
  changes_alone = changes-alone;
}

pub point-examples : PointExamples
unfolding found decimals_of in_range alarm alarms_kept start_values answered xu_of stored read_number read_value fits text write_number written block_item block_value block_number
point-examples = record { numbers = refl; entries = refl; texts = refl }
