-- The state that a step starts from: a state within its limits, with all that its phase doesn't use at 0. Its acts are limited.
-- Assumes nothing.
use Rattle.std.specs.Prelude.{Option, Some, None}
use Rattle.std.proofs.Common.{◌≡◌, ℕ, zero, suc, ◌+◌, ◌-◌, ◌<◌, ◌≤◌, Bool, true, false, cond, ◌&&◌, eqb, ltb, leb, List, [], ◌∷◌, get_or, set, ℤ, sym, refl, ◌∙◌, arith, lit<, lit≤, ltb-true, lt-ltb, eq-eqb, ne_eqb, le-leb, leb-true}
use Rattle.numbers.specs.Numbers.{none}
use Rattle.numbers.proofs.Tests.{both, chosen}
use Rattle.kept.specs.Kept.{up_to}
use Rattle.items.specs.ItemList.{items, found}
use Rattle.items.proofs.Lookup.{found-place}
use Rattle.line.specs.Line.{ETX, top_bit, low_seven, within}
use Rattle.line.proofs.Laws.{within_in, within-true, low-seven-small, taken-small}
use Rattle.phases.specs.Phases.{one_character, two_characters, waiting, text, bcc_due, answered}
use Rattle.phases.specs.Limits.{Listed, Limited}
use Rattle.phases.specs.declared.Act.{Act}
use Rattle.phases.specs.declared.Act.TheVariants.{Go, First, Both, More, Ended, Quit, Poll, Send, Judge}
use Rattle.phases.proofs.Laws.{decided-limited}
use Rattle.rkc.specs.declared.Link.{Link}
use Rattle.rkc.specs.State.{in_phase, holding_one, holding_two, waiting_on, block, in_block, used, is_character, all_characters}
use Rattle.rkc.specs.State.{most_counted, block_in_limits, in_limits, one_more, with_more, with_end}
use Rattle.rkc.specs.Outcome.{Step, Outcome, asked, item_text, item_sent, polled, refusing, performed}
use Rattle.rkc.proofs.Used.{used-phase, asked-used}

-- an identifier's first character, and an item that is waited on
module _ (l : Link) (h : in_limits l ≡ true) where
  first_small : l.phase ≡ one_character → get_or (used l).kept 0 0 < top_bit
  unfolding used in_limits
  first_small e = rw (eq-eqb _ _ e) (ltb-true _ _ (rw (eq-eqb _ _ e) at h))

  item-listed : l.phase ≡ waiting → Listed items (used l).item
  unfolding used in_limits
  item-listed e = rw e (within-true _ _ _ (rw e at h))

  pub asked-limited : (address c : ℕ) → Limited items (asked (used l) address c)
  asked-limited address c =
      decided-limited items (used l).phase (get_or (used l).kept 0 0) (get_or (used l).kept 1 0) (used l).item address c
      (λ e. first_small (sym (used-phase l) ∙ e)) (λ e. item-listed (sym (used-phase l) ∙ e))

  pub act-limited : (address c : ℕ) {x : Act} → x ≡ asked l address c → Limited items x
  act-limited address c e = rw (e ∙ sym (asked-used l address c)) (asked-limited address c)

-- ---- what a step leaves is within its limits

-- fields that stay small in every phase, of a state with all at 0 that its phase doesn't use
pub record Small (l : Link) : Type 0 where
  pub counted : l.count ≤ most_counted
  pub summed : l.bcc < top_bit
  pub kept : all_characters l.kept ≡ true

all-up-to : (n : ℕ) (cs : List ℕ) → all_characters cs ≡ true → all_characters (up_to n cs) ≡ true
all-up-to n [] a = refl
all-up-to zero (c ∷ cs) a = all-up-to zero cs (both (is_character c) (all_characters cs) a).1
all-up-to (suc n) (c ∷ cs) a =
    let p = both (is_character c) (all_characters cs) a in
    rw p.0 (all-up-to n cs p.1)

all_set : (cs : List ℕ) (n c : ℕ) → all_characters cs ≡ true → c < top_bit → all_characters (set cs n c) ≡ true
all_set [] n c a h = refl
all_set (x ∷ cs) zero c a h = simp (lt-ltb c top_bit h) (both (is_character x) (all_characters cs) a).1
all_set (x ∷ cs) (suc n) c a h =
    let p = both (is_character x) (all_characters cs) a in
    rw p.0 (all_set cs n c p.1 h)

pub used-small : (l : Link) → in_limits l ≡ true → Small (used l)
unfolding used in_limits
used-small l h =
    by (eqb l.phase one_character) (eqb l.phase two_characters) (eqb l.phase waiting) (in_block l.phase) h
  where
    k0 : ℕ
    k0 = get_or l.kept 0 0

    k1 : ℕ
    k1 = get_or l.kept 1 0

    by : (a b c d : Bool)
        → cond a (is_character k0) (cond b (is_character k0 && is_character k1) (cond c (within 1 items l.item) (cond d (block_in_limits l) (leb l.phase answered)))) ≡ true
        → Small (cond a (holding_one k0) (cond b (holding_two k0 k1) (cond c (waiting_on l.item l.time) (cond d (block l.phase l.count l.bcc l.mark (up_to l.count l.kept)) (in_phase l.phase)))))
    by true b c d e = record { counted = lit≤ tt; summed = lit< tt; kept = rw e }
    by false true c d e = let p = both (is_character k0) (is_character k1) e in record { counted = lit≤ tt; summed = lit< tt; kept = rw (p.0, p.1) }
    by false false true d e = record { counted = lit≤ tt; summed = lit< tt; kept = refl }
    by false false false true e =
        let p = both (leb l.count most_counted) _ e in
        let q = both (is_character l.bcc) _ p.1 in
        record { counted = leb-true _ _ p.0; summed = ltb-true _ _ q.0; kept = q.1 }
    by false false false false e = record { counted = lit≤ tt; summed = lit< tt; kept = refl }

-- a phase with all else 0
pub in-phase-limits : (phase : ℕ) → phase ≤ answered → (phase ≡ waiting → ⊥) → in_limits (in_phase phase) ≡ true
unfolding in_limits
in-phase-limits phase h n =
    simp (ne_eqb phase waiting n, le-leb phase answered h)
    (by (eqb phase one_character) (eqb phase two_characters) (in_block phase))
  where
    by : (a b d : Bool) → cond a true (cond b true (cond d true true)) ≡ true
    by true b d = refl
    by false true d = refl
    by false false true = refl
    by false false false = refl

-- a block whose fields are small
block-limits : (phase count sum : ℕ) (mark : Bool) (kept : List ℕ) → in_block phase ≡ true → (phase ≡ one_character → ⊥)
    → (phase ≡ two_characters → ⊥) → (phase ≡ waiting → ⊥) → count ≤ most_counted → sum < top_bit → all_characters kept ≡ true
    → in_limits (block phase count sum mark kept) ≡ true
unfolding in_limits
block-limits phase count sum mark kept i a b c n s k =
    simp (ne_eqb _ _ a, ne_eqb _ _ b, ne_eqb _ _ c, i, le-leb _ _ n, lt-ltb _ _ s, all-up-to count kept k)

more-limits : (l : Link) (c : ℕ) → Small l → in_limits (with_more l c) ≡ true
unfolding with_more
more-limits l c s =
    block-limits text (one_more l.count) _ _ _ refl (λ e. omega arith) (λ e. omega arith) (λ e. omega arith) (counted-more l.count)
    (taken-small l.bcc c s.summed) (all_set l.kept l.count (low_seven c) s.kept (low-seven-small c))
  where
    counted-more : (n : ℕ) → one_more n ≤ most_counted
    counted-more n =
        chosen (λ (m : ℕ). m ≤ most_counted) (ltb n most_counted) (λ e. let h = ltb-true n most_counted e in omega arith) (λ _. omega arith)

end-limits : (l : Link) → Small l → in_limits (with_end l) ≡ true
unfolding with_end
end-limits l s =
    block-limits bcc_due l.count _ _ _ refl (λ e. omega arith) (λ e. omega arith) (λ e. omega arith) s.counted
    (taken-small l.bcc ETX s.summed) s.kept

-- an item of the list, waited on or given up
item-limits : (structure time : ℕ) (t : List ℤ) (i : ℕ) → i < items → in_limits (item_sent structure time t i).link ≡ true
unfolding item_sent in_limits
item-limits structure time t i h =
    chosen (λ (s : Step). in_limits s.link ≡ true) (eqb (item_text t i).number none)
    (λ _. within_in 1 items (i + 1) (omega arith) (omega arith))
    (λ _. refl)

pub performed-limits : (l : Link) (t : List ℤ) (structure time : ℕ) (x : Act) → Small l → Limited items x
    → in_limits (performed l t structure time x).step.link ≡ true
unfolding performed in_limits
performed-limits l t structure time (Go phase) s x = in-phase-limits phase x.0 x.1
performed-limits l t structure time (First a) s x = lt-ltb a top_bit x
performed-limits l t structure time (Both a b) s x = simp (lt-ltb a top_bit x.0, lt-ltb b top_bit x.1)
performed-limits l t structure time (More c) s x = more-limits l c s
performed-limits l t structure time Ended s x = end-limits l s
performed-limits l t structure time (Quit refusal) s x = refl
performed-limits l t structure time (Poll a b) s x = by (found a b) refl
  where
    by : (f : Option ℕ) → found a b ≡ f → in_limits (polled structure time t f).link ≡ true
    by (Some i) e = item-limits structure time t i (found-place a b i e).0
    by None e = refl
performed-limits l t structure time (Send item) s x = item-limits structure time t (item - 1) (omega (arith, x.0, x.1))
performed-limits l t structure time (Judge c) s x =
    chosen (λ (o : Outcome). in_limits o.step.link ≡ true) (eqb (refusing t l c) none) (λ _. refl) (λ _. refl)

-- what is used of a state within its limits is within them
pub used-in-limits : (l : Link) → in_limits l ≡ true → in_limits (used l) ≡ true
unfolding used in_limits
used-in-limits l h =
    by (eqb l.phase one_character) (eqb l.phase two_characters) (eqb l.phase waiting) (in_block l.phase) refl refl refl refl h
  where
    k0 : ℕ
    k0 = get_or l.kept 0 0

    k1 : ℕ
    k1 = get_or l.kept 1 0

    by : (a b c d : Bool) → eqb l.phase one_character ≡ a → eqb l.phase two_characters ≡ b → eqb l.phase waiting ≡ c → in_block l.phase ≡ d
        → cond a (is_character k0) (cond b (is_character k0 && is_character k1) (cond c (within 1 items l.item) (cond d (block_in_limits l) (leb l.phase answered)))) ≡ true
        → in_limits (cond a (holding_one k0) (cond b (holding_two k0 k1) (cond c (waiting_on l.item l.time) (cond d (block l.phase l.count l.bcc l.mark (up_to l.count l.kept)) (in_phase l.phase))))) ≡ true
    by true b c d p q r s e = e
    by false true c d p q r s e = e
    by false false true d p q r s e = e
    by false false false true p q r s e =
        let m = both (leb l.count most_counted) _ e in
        let n = both (is_character l.bcc) _ m.1 in
        simp (p, q, r, s, m.0, n.0, all-up-to l.count (up_to l.count l.kept) n.1)
    by false false false false p q r s e = simp (p, q, r, s, e)
