-- Laws of the table: what a good one is, that it stays good, what a store leaves alone, and how a put ends.
-- Assumes nothing.
use mathlib.Core.Path.{◌≡◌, refl, sym, ap, ◌∙◌}
use mathlib.Core.Logic.{◌≢◌, ◌⊎◌, inl, inr, ⊎_elim}
use mathlib.Core.Bool.{Bool, true, false}
use mathlib.Core.List.{List, [], ◌∷◌}
use Prim.Native.Nat.{ℕ, zero, suc, ◌-◌, ◌<◌}
use native.Mathlib.Nat.{not-suc-le-zero}
use native.Mathlib.Omega.{arith}
use borrow.Author.Tests.{eq-eqb, eqb-true, eqb-false, ltb-true, ltb-false}
use lib.Dec.{eqb, ltb}
use lib.IntN.{ℤ, pos}
use lib.ListN.{get_or, set, length, length-set}
use lib.Seq.{set_out, get_or-set_same, get_or-set_other, ext_get_or}
use Rattle.std.proofs.lemmas.Bool.Decides.{nat_tests}
use Rattle.std.proofs.lemmas.Grind.{common_steps}
use Rattle.numbers.specs.Numbers.{none}
use Rattle.numbers.proofs.Tests.{contrary, chosen}
use Rattle.items.specs.ItemList.{Item, items, item_list, no_item, item_at, from_low_to_high, in_range}
use Rattle.table.specs.Table.{entry, AA, AB, A1, A2, XU, is_alarm_state, alarm}
use Rattle.table.specs.Table.{alarms_agree, alarms_kept, all_in_range, table_fault, good_table, start_values, stored}
use Rattle.table.specs.Table.{put_number, put_table, SameButXU, PutOfXU, AlarmsTrue}
use Rattle.table.proofs.Alarms.{alarm-is, agree-true, kept-length, kept-other, kept-agree, others-decide, xu-no-matter}

-- ---- a good table

-- what a good table is: an entry for each item, each in its range, and true alarm states
record Good (t : List ℤ) : Type 0 where
  counted : length t ≡ items
  inside : all_in_range item_list t ≡ true
  agree : alarms_agree t ≡ true

good-parts : (t : List ℤ) → good_table t ≡ true → Good t
unfolding table_fault
good-parts t g = record { counted = grind (arith, nat_tests); inside = grind (arith, nat_tests); agree = grind (arith, nat_tests) }

good-from : {t : List ℤ} → Good t → good_table t ≡ true
unfolding table_fault
good-from g = rw (eq-eqb _ _ g.counted, g.inside, g.agree)

all-at : (xs : List Item) (t : List ℤ) (i : ℕ) → all_in_range xs t ≡ true → i < length xs → i < length t
    → from_low_to_high (get_or xs i no_item) (entry t i) ≡ true
all-at [] t i a h k = absurd (not-suc-le-zero h)
all-at (x ∷ xs) [] i a h k = absurd (not-suc-le-zero k)
all-at (x ∷ xs) (v ∷ t) zero a h k = grind (arith, nat_tests)
all-at (x ∷ xs) (v ∷ t) (suc i) a h k = grind (arith, nat_tests, all-at xs t i)

pub good_length : (t : List ℤ) → good_table t ≡ true → length t ≡ items
good_length t g = (good-parts t g).counted

-- each entry of a good table is in its range
pub good-entry : (t : List ℤ) (i : ℕ) → good_table t ≡ true → i < items → in_range i (entry t i) ≡ true
unfolding in_range
good-entry t i g h = let p = good-parts t g in all-at item_list t i p.inside h (omega (arith, p.counted))

-- its alarm states are true
pub good-alarms : (t : List ℤ) → good_table t ≡ true → AlarmsTrue t
good-alarms t g = agree-true t (good-parts t g).agree

-- and its other entries decide them
pub good_others : (t u : List ℤ) → good_table t ≡ true → length u ≡ items
    → ((i : ℕ) → is_alarm_state i ≡ false → i < items → entry u i ≡ entry t i) → alarms_kept u ≡ t
good_others t u g l same =
    let p = good-parts t g in
    let long = kept-length u ∙ l in
    ext_get_or (pos 0) (alarms_kept u) t (long ∙ sym p.counted)
    (λ i h. others-decide t u i p.agree (omega (arith, l)) same (omega (arith, long)))

-- so two good tables are the same where their other entries are
pub good-same : (t u : List ℤ) → good_table t ≡ true → good_table u ≡ true
    → ((i : ℕ) → is_alarm_state i ≡ false → i < items → entry u i ≡ entry t i) → u ≡ t
good-same t u g h same =
    sym (good_others u u h (good_length u h) (λ i s k. refl)) ∙ good_others t u g (good_length u h) same

-- and two are the same but for XU where their entries are that are neither XU's nor those of alarm states
pub good-but-xu : (t u : List ℤ) → good_table t ≡ true → good_table u ≡ true
    → ((j : ℕ) → is_alarm_state j ≡ false → j ≢ XU → entry u j ≡ entry t j) → SameButXU t u
good-but-xu t u g h same = record {
  long = good_length u h ∙ sym (good_length t g);
  others = λ j other. xu-no-matter t u j (good-parts t g).agree (good-parts u h).agree same other;
}

-- the start table is good
pub good_start : good_table start_values ≡ true
unfolding start_values alarm table_fault
good_start = refl

-- ---- storing

all_set : (xs : List Item) (t : List ℤ) (i : ℕ) (v : ℤ) → all_in_range xs t ≡ true → from_low_to_high (get_or xs i no_item) v ≡ true
    → all_in_range xs (set t i v) ≡ true
all_set [] t i v a r = refl
all_set (x ∷ xs) [] i v a r = refl
all_set (x ∷ xs) (w ∷ t) zero v a r = grind (arith, nat_tests)
all_set (x ∷ xs) (w ∷ t) (suc i) v a r = grind (arith, nat_tests, all_set xs t i v)

all-kept : (t : List ℤ) → all_in_range item_list t ≡ true → all_in_range item_list (alarms_kept t) ≡ true
unfolding alarms_kept
all-kept t a =
    let ranged : (state limit : ℕ) → from_low_to_high (item_at state) (pos 1) ≡ true → from_low_to_high (item_at state) (pos 0) ≡ true
    → from_low_to_high (item_at state) (alarm t limit) ≡ true =
    λ state limit one none. alarm-is (λ (v : ℤ). from_low_to_high (item_at state) v ≡ true) one none t limit in
    all_set item_list (set t AA (alarm t A1)) AB (alarm t A2)
    (all_set item_list t AA (alarm t A1) a (ranged AA A1 refl refl)) (ranged AB A2 refl refl)

-- what holds of the table as it came, and of one with an entry set and the alarm states made true, holds after a store
by-store : (P : List ℤ → Type 0) (t : List ℤ) (i : ℕ) (v : ℤ) → P t → P (alarms_kept (set t i v)) → P (stored t i v)
unfolding stored
by-store P t i v same new = chosen P (ltb i (length t)) (λ _. new) (λ _. same)

-- a good table stays good after a store in range
pub good-stored : (t : List ℤ) (i : ℕ) (v : ℤ) → good_table t ≡ true → in_range i v ≡ true → good_table (stored t i v) ≡ true
unfolding in_range
good-stored t i v g r =
    let p = good-parts t g in
    let long = length-set t i v ∙ p.counted in
    by-store (λ (s : List ℤ). good_table s ≡ true) t i v g
    (good-from (record {
      counted = kept-length (set t i v) ∙ long;
      inside = all-kept (set t i v) (all_set item_list t i v p.inside r);
      agree = kept-agree (set t i v) (omega (arith, long));
    }))

-- a store leaves the table's length, puts the value in its entry, and leaves every other: all this of the entries that are no alarm
-- states
pub stored-length : (t : List ℤ) (i : ℕ) (v : ℤ) → length (stored t i v) ≡ length t
unfolding stored
stored-length t i v = grind (arith, kept-length, common_steps)

pub stored_same : (t : List ℤ) (i : ℕ) (v : ℤ) → is_alarm_state i ≡ false → i < length t → entry (stored t i v) i ≡ v
unfolding stored
stored_same t i v o h = grind (arith, kept-other, common_steps)

pub stored_other : (t : List ℤ) (i j : ℕ) (v : ℤ) → is_alarm_state j ≡ false → (j ≡ i → ⊥) → entry (stored t i v) j ≡ entry t j
unfolding stored
stored_other t i j v o h = grind (arith, kept-other, common_steps)

-- so a store to XU changes no other entry of a good table
pub stored-but-xu : (t : List ℤ) (v : ℤ) → good_table t ≡ true → in_range XU v ≡ true → SameButXU t (stored t XU v)
stored-but-xu t v g r = good-but-xu t (stored t XU v) g (good-stored t XU v g r) (λ j o other. stored_other t XU j v o other)

-- and one of the number that an item has leaves a good table as it is
pub stored-own : (t : List ℤ) (i : ℕ) → good_table t ≡ true → i < items → stored t i (entry t i) ≡ t
stored-own t i g h =
    good-same t (stored t i (entry t i)) g (good-stored t i (entry t i) g (good-entry t i g h)) (λ j o k. by j o (eqb j i) refl)
  where
    by : (j : ℕ) → is_alarm_state j ≡ false → (b : Bool) → eqb j i ≡ b → entry (stored t i (entry t i)) j ≡ entry t j
    by j o true e = rw (eqb-true j i e) (stored_same t i (entry t i) (rw (eqb-true j i e) at o) (omega (arith, h, good_length t g)))
    by j o false e = stored_other t i j (entry t i) o (eqb-false j i e)

-- and a store to a writable item leaves the read-only ones, the alarm states apart
pub stored-read-only : (t : List ℤ) (i j : ℕ) (v : ℤ) → (item_at i).writable ≡ true → (item_at j).writable ≡ false → is_alarm_state j ≡ false
    → entry (stored t i v) j ≡ entry t j
stored-read-only t i j v w r o =
    stored_other t i j v o (λ e. contrary (sym w ∙ ap (λ (k : ℕ). (item_at k).writable) (sym e) ∙ r))

-- and a store in range leaves every entry unchanged or in its range, in any table
abbrev pub StaysOrInRange : List ℤ → List ℤ → ℕ → Type 0
StaysOrInRange t u j = (entry u j ≡ entry t j) ⊎ (in_range j (entry u j) ≡ true)

-- two such changes, one after the other, are one
pub stays_then : (t u w : List ℤ) (j : ℕ) → StaysOrInRange t u j → StaysOrInRange u w j → StaysOrInRange t w j
stays_then t u w j first = ⊎_elim (λ stays. ⊎_elim (λ e. inl (stays ∙ e)) (λ r. inr (rw stays r)) first) (λ r. inr r)

set-in-range : (t : List ℤ) (i j : ℕ) (v : ℤ) → in_range i v ≡ true → StaysOrInRange t (set t i v) j
set-in-range t i j v r = by (eqb j i) (ltb i (length t)) refl refl
  where
    by : (a b : Bool) → eqb j i ≡ a → ltb i (length t) ≡ b → StaysOrInRange t (set t i v) j
    by true true p q =
        let same = eqb-true j i p in
        inr (rw same (rw (get_or-set_same t i v (pos 0) (ltb-true i (length t) q)) r))
    by true false p q = inl (ap (λ (s : List ℤ). entry s j) (set_out t i v (ltb-false i (length t) q)))
    by false b p q = inl (get_or-set_other t i j v (pos 0) (eqb-false j i p))

pub stored-in-range : (t : List ℤ) (i j : ℕ) (v : ℤ) → in_range i v ≡ true → StaysOrInRange t (stored t i v) j
unfolding alarms_kept in_range
stored-in-range t i j v r =
    let s = set t i v in
    let first = set s AA (alarm s A1) in
    let second = set first AB (alarm s A2) in
    let state : (u : List ℤ) (k limit : ℕ) → in_range k (pos 1) ≡ true → in_range k (pos 0) ≡ true
    → StaysOrInRange u (set u k (alarm s limit)) j =
    λ u k limit one none. set-in-range u k j _ (alarm-is (λ (w : ℤ). in_range k w ≡ true) one none s limit) in
    by-store (λ (u : List ℤ). StaysOrInRange t u j) t i v (inl refl)
    (stays_then t s second j (set-in-range t i j v r)
    (stays_then s first second j (state s AA A1 refl refl) (state first AB A2 refl refl)))

-- ---- the firmware's put

-- a put that meets no number has a value in range
accepted-in-range : (t : List ℤ) (n : ℕ) (v : ℤ) → put_number t n v ≡ none → in_range (n - 1) v ≡ true
unfolding put_number
accepted-in-range t n v e = grind (arith, nat_tests)

-- a good table stays good after put
pub good-put : (t : List ℤ) (n : ℕ) (v : ℤ) → good_table t ≡ true → good_table (put_table t n v) ≡ true
unfolding put_table
good-put t n v g =
    chosen (λ (s : List ℤ). good_table s ≡ true) (eqb (put_number t n v) none)
    (λ e. good-stored t (n - 1) v g (accepted-in-range t n v (eqb-true _ _ e)))
    (λ _. g)

-- a put to XU, refused or not, changes no other entry
pub put-but-xu : PutOfXU
unfolding put_table
put-but-xu t v g =
    chosen (SameButXU t) (eqb (put_number t (suc XU) v) none) (λ e. stored-but-xu t v g (accepted-in-range t (suc XU) v (eqb-true _ _ e)))
    (λ _. record { long = refl; others = λ j other. refl })
