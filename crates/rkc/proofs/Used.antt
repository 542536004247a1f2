-- A step looks at a state only where its phase uses it: it asks and does the same of a state as of what is used of it.
-- Assumes nothing.
use Rattle.std.proofs.Common.{◌≡◌, ℕ, Bool, true, false, cond, eqb, leb, ◌≢◌, List, get_or, drop, ℤ, sym, refl, ap, ◌∙◌, ap₂, arith, ne_eqb, eqb-true, leb-true}
use Rattle.numbers.specs.Numbers.{none, first_met}
use Rattle.numbers.proofs.Tests.{contrary}
use Rattle.numbers.proofs.Order.{none-at, test-held}
use Rattle.kept.specs.Kept.{up_to}
use Rattle.kept.proofs.Cut.{up-to-at, up-to-take}
use Rattle.items.specs.ItemList.{items, item_at, decimals_of}
use Rattle.table.specs.Table.{xu_of}
use Rattle.text.specs.Numbers.{width}
use Rattle.text.specs.Reading.{read_value}
use Rattle.phases.specs.Phases.{one_character, two_characters, waiting, text, bcc_due}
use Rattle.phases.specs.Decision.{decided}
use Rattle.phases.specs.declared.Act.{Act}
use Rattle.phases.proofs.Acts.{outside-act}
use Rattle.phases.proofs.Uses.{decided-one, decided-two, decided-waiting, decided-other}
use Rattle.block.specs.Block.{under_two, identifier_length, block_item, block_value, block_numbers, block_number}
use Rattle.rkc.specs.declared.Link.{Link}
use Rattle.rkc.specs.State.{in_phase, holding_one, holding_two, waiting_on, as_block, in_block, used}
use Rattle.rkc.specs.Outcome.{refusing, judged, performed, asked}

-- ---- the phase, and the time that waiting uses

-- what is used of a state has its phase
pub used-phase : (l : Link) → (used l).phase ≡ l.phase
unfolding used
used-phase l = by (eqb l.phase one_character) (eqb l.phase two_characters) (eqb l.phase waiting) (in_block l.phase) refl refl refl
  where
    by : (a b c d : Bool) → eqb l.phase one_character ≡ a → eqb l.phase two_characters ≡ b → eqb l.phase waiting ≡ c
        → (cond a (holding_one (get_or l.kept 0 0)) (cond b (holding_two (get_or l.kept 0 0) (get_or l.kept 1 0)) (cond c (waiting_on l.item l.time) (cond d (as_block l) (in_phase l.phase))))).phase ≡ l.phase
    by true b c d p q r = sym (eqb-true _ _ p)
    by false true c d p q r = sym (eqb-true _ _ q)
    by false false true d p q r = sym (eqb-true _ _ r)
    by false false false true p q r = refl
    by false false false false p q r = refl

pub used-waiting : (l : Link) → l.phase ≡ waiting → used l ≡ waiting_on l.item l.time
unfolding used
used-waiting l e = rw e

-- ---- kept characters past the count

-- a block says the same without them once it has an identifier, and before that 13 is met
module _ (xu count : ℕ) (kept : List ℕ) where
  module _ (h : leb identifier_length count ≡ true) where
    item-up-to : block_item (up_to count kept) ≡ block_item kept
    unfolding block_item
    item-up-to =
        let n = leb-true identifier_length count h in
        rw (up-to-at count kept 0 (omega arith), up-to-at count kept 1 (omega arith))

    value-up-to : block_value xu count (up_to count kept) ≡ block_value xu count kept
    unfolding block_value
    value-up-to =
        ap₂ (λ (i : ℕ) (cs : List ℕ). read_value width (decimals_of xu i) (drop identifier_length cs)) item-up-to (up-to-take count kept)

  module _ (mark : Bool) (sum c : ℕ) where
    number-up-to : block_number xu mark sum count (up_to count kept) c ≡ block_number xu mark sum count kept c
    unfolding block_number
    number-up-to = by (leb identifier_length count) refl
      where
        by : (b : Bool) → leb identifier_length count ≡ b
            → first_met (block_numbers xu mark sum count (up_to count kept) c) ≡ first_met (block_numbers xu mark sum count kept c)
        by true e =
            let writable = ap (λ (i : ℕ). (item_at i).writable) (item-up-to e) in
            rw (writable, item-up-to e, value-up-to e, up-to-take count kept)
        by false e = rw e

    has-identifier : block_number xu mark sum count kept c ≡ none → leb identifier_length count ≡ true
    unfolding block_number
    has-identifier z = test-held _ under_two (omega arith) (none-at (block_numbers xu mark sum count kept c) 2 z)

-- so the answer does not look at them
pub judged_up_to : (structure : ℕ) (t : List ℤ) (l : Link) (c : ℕ) → judged structure t (as_block l) c ≡ judged structure t l c
judged_up_to structure t l c = by (leb identifier_length l.count) refl
  where
    number : refusing t (as_block l) c ≡ refusing t l c
    number = number-up-to (xu_of t) l.count l.kept l.mark l.bcc c

    by : (b : Bool) → leb identifier_length l.count ≡ b → judged structure t (as_block l) c ≡ judged structure t l c
    by true e = rw (number, item-up-to (xu_of t) l.count l.kept e, value-up-to (xu_of t) l.count l.kept e)
    by false e =
        let met : refusing t l c ≢ none = λ z. contrary (sym (has-identifier (xu_of t) l.count l.kept l.mark l.bcc c z) ∙ e) in
        rw (number, ne_eqb (refusing t l c) none met)

-- ---- what a character asks for

pub asked-used : (l : Link) (address c : ℕ) → asked (used l) address c ≡ asked l address c
unfolding used
asked-used l address c =
    by (eqb l.phase one_character) (eqb l.phase two_characters) (eqb l.phase waiting) (in_block l.phase) refl refl refl
  where
    k0 : ℕ
    k0 = get_or l.kept 0 0

    k1 : ℕ
    k1 = get_or l.kept 1 0

    by : (a b w d : Bool) → eqb l.phase one_character ≡ a → eqb l.phase two_characters ≡ b → eqb l.phase waiting ≡ w
        → asked (cond a (holding_one k0) (cond b (holding_two k0 k1) (cond w (waiting_on l.item l.time) (cond d (as_block l) (in_phase l.phase))))) address c
        ≡ asked l address c
    by true b w d p q r = rw (eqb-true l.phase one_character p) (decided-one items k0 0 0 k1 l.item address c)
    by false true w d p q r = rw (eqb-true l.phase two_characters q) (decided-two items k0 k1 0 k1 l.item address c)
    by false false true d p q r = rw (eqb-true l.phase waiting r) (decided-waiting items 0 0 l.item k0 k1 address c)
    by false false false true p q r = decided-other items l.phase _ _ _ _ _ _ address c p q r
    by false false false false p q r = decided-other items l.phase _ _ _ _ _ _ address c p q r

-- ---- what is done

-- outside a block no act asks for the state
outside-same : (l k : Link) (t : List ℤ) (structure time last phase a b item address c : ℕ) → eqb phase bcc_due ≡ false → eqb phase text ≡ false
    → performed l t structure time (decided last phase a b item address c) ≡ performed k t structure time (decided last phase a b item address c)
unfolding performed
outside-same l k t structure time =
    outside-act (λ (x : Act). performed l t structure time x ≡ performed k t structure time x) (λ p. refl) (λ a. refl) (λ a b. refl)
    (λ a b. refl) (λ i. refl) refl refl refl

-- in a block that is what is used
used-block : (l : Link) (phase : ℕ) → l.phase ≡ phase → in_block phase ≡ true → eqb phase one_character ≡ false → eqb phase two_characters ≡ false → eqb phase waiting ≡ false
    → used l ≡ as_block l
unfolding used
used-block l phase e i p q r = simp (e, i, p, q, r)

pub performed-used : (l : Link) (t : List ℤ) (structure time address c : ℕ)
    → performed (used l) t structure time (asked l address c) ≡ performed (as_block l) t structure time (asked l address c)
performed-used l t structure time address c = by (eqb l.phase bcc_due) (eqb l.phase text) refl refl
  where
    by : (a b : Bool) → eqb l.phase bcc_due ≡ a → eqb l.phase text ≡ b
        → performed (used l) t structure time (asked l address c) ≡ performed (as_block l) t structure time (asked l address c)
    by true b p q = ap (λ (k : Link). performed k t structure time (asked l address c)) (used-block l bcc_due (eqb-true _ _ p) refl refl refl refl)
    by false true p q = ap (λ (k : Link). performed k t structure time (asked l address c)) (used-block l text (eqb-true _ _ q) refl refl refl refl)
    by false false p q = outside-same (used l) (as_block l) t structure time items l.phase _ _ _ address c p q
