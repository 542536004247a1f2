-- Laws of the alarm states: what making them true leaves of a table, and when they are true.
-- Assumes nothing.
use mathlib.Core.Path.{◌≡◌, refl, sym, ◌∙◌}
use mathlib.Core.Logic.{◌≢◌}
use mathlib.Core.Bool.{Bool, true, false}
use mathlib.Core.List.{List}
use Prim.Native.Nat.{ℕ, ◌<◌}
use native.Mathlib.Omega.{arith}
use borrow.Author.Tests.{eqb-true}
use lib.Dec.{eqb, lit<}
use lib.IntN.{ℤ, pos}
use lib.ListN.{length, length-set}
use lib.Signed.{le_z}
use Rattle.std.proofs.lemmas.Bool.Decides.{nat_tests}
use Rattle.std.proofs.lemmas.Grind.{common_steps}
use Rattle.numbers.proofs.Tests.{contrary, both, chosen}
use Rattle.sign.specs.Sign.{eq_z}
use Rattle.sign.proofs.Laws.{eq_z-true, eq_z-same}
use Rattle.items.specs.ItemList.{items, item_at, found}
use Rattle.table.specs.Table.{entry, M1, AA, AB, A1, A2, XU, Places, is_alarm_state, alarm, alarms_agree, alarms_kept, IsTrue, AlarmsTrue}

-- the places are those of the items
pub places : Places
unfolding found
places = record { measured = refl; state1 = refl; state2 = refl; alarm1 = refl; alarm2 = refl; decimals = refl }

-- ---- which items they are

-- an item that is no alarm state is neither
neither : (i : ℕ) → is_alarm_state i ≡ false → (i ≡ AA → ⊥) × (i ≡ AB → ⊥)
neither i e = grind (arith, nat_tests)

-- a claim about the items, by the two and those that are neither
by_state : (P : ℕ → Type 0) (i : ℕ) → P AA → P AB → (is_alarm_state i ≡ false → P i) → P i
by_state P i a b other = by (eqb i AA) (eqb i AB) refl refl
  where
    by : (x y : Bool) → eqb i AA ≡ x → eqb i AB ≡ y → P i
    by true y p q = rw (eqb-true i AA p) a
    by false true p q = rw (eqb-true i AB q) b
    by false false p q = other (rw (p, q))

-- no host may write them
pub writable-no-state : (i : ℕ) → (item_at i).writable ≡ true → is_alarm_state i ≡ false
writable-no-state i w = by_state (λ (k : ℕ). (item_at k).writable ≡ true → is_alarm_state k ≡ false) i (λ z. contrary (sym z)) (λ z. contrary (sym z)) (λ e z. e) w

-- ---- the state that M1 and an alarm's value make

-- it goes by these two entries alone
alarm-by : (t u : List ℤ) (limit : ℕ) → entry t limit ≡ entry u limit → entry t M1 ≡ entry u M1 → alarm t limit ≡ alarm u limit
unfolding alarm
alarm-by t u limit l m = rw (l, m)

-- what holds of 1 and of 0 holds of it
pub alarm-is : (P : ℤ → Type 0) → P (pos 1) → P (pos 0) → (t : List ℤ) (limit : ℕ) → P (alarm t limit)
unfolding alarm
alarm-is P one none t limit = chosen P (le_z (entry t limit) (entry t M1)) (λ _. one) (λ _. none)

-- an entry that agrees with it is true
agreeing : (t : List ℤ) (state limit : ℕ) → entry t state ≡ alarm t limit → IsTrue t state limit
unfolding alarm
agreeing t state limit agree = record { on = λ q. grind (arith, nat_tests, q); only_then = λ q. grind (arith, nat_tests, q); off = λ q. grind (arith, nat_tests, q) }

-- so both are in a table in which they agree
pub agree-true : (t : List ℤ) → alarms_agree t ≡ true → AlarmsTrue t
agree-true t e =
    let p = both (eq_z (entry t AA) (alarm t A1)) (eq_z (entry t AB) (alarm t A2)) e in
    record { alarm1 = agreeing t AA A1 (eq_z-true _ _ p.0); alarm2 = agreeing t AB A2 (eq_z-true _ _ p.1) }

-- ---- making them true

-- leaves the length, and every other entry
pub kept-length : (t : List ℤ) → length (alarms_kept t) ≡ length t
unfolding alarms_kept
kept-length t = simp length-set

pub kept-other : (t : List ℤ) (i : ℕ) → is_alarm_state i ≡ false → entry (alarms_kept t) i ≡ entry t i
unfolding alarms_kept
kept-other t i o = let n = neither i o in grind (arith, common_steps)

-- puts what M1, A1 and A2 make in the two, in a table that has entries for them
module _ (t : List ℤ) (h : AB < length t) where
  kept-AA : entry (alarms_kept t) AA ≡ alarm t A1
  unfolding alarms_kept
  kept-AA = grind (arith, common_steps)

  kept-AB : entry (alarms_kept t) AB ≡ alarm t A2
  unfolding alarms_kept
  kept-AB = grind (arith, common_steps)

-- M1, A1 and A2 make the same states of the table so left
kept-alarm : (t : List ℤ) (limit : ℕ) → is_alarm_state limit ≡ false → alarm (alarms_kept t) limit ≡ alarm t limit
kept-alarm t limit o = alarm-by (alarms_kept t) t limit (kept-other t limit o) (kept-other t M1 refl)

-- so they agree
pub kept-agree : (t : List ℤ) → AB < length t → alarms_agree (alarms_kept t) ≡ true
kept-agree t h =
    rw (kept-AA t h, kept-AB t h, kept-alarm t A1 refl, kept-alarm t A2 refl, eq_z-same (alarm t A1), eq_z-same (alarm t A2))

-- the other entries decide them: a table in which they agree is what making them true makes of one that has its other entries
pub others-decide : (t u : List ℤ) (i : ℕ) → alarms_agree t ≡ true → AB < length u
    → ((j : ℕ) → is_alarm_state j ≡ false → j < items → entry u j ≡ entry t j) → i < items → entry (alarms_kept u) i ≡ entry t i
others-decide t u i agree h same inside =
    let p = both (eq_z (entry t AA) (alarm t A1)) (eq_z (entry t AB) (alarm t A2)) agree in
    by_state (λ (k : ℕ). entry (alarms_kept u) k ≡ entry t k) i
    (kept-AA u h ∙ alarm-by u t A1 (same A1 refl (lit< tt)) (same M1 refl (lit< tt)) ∙ sym (eq_z-true _ _ p.0))
    (kept-AB u h ∙ alarm-by u t A2 (same A2 refl (lit< tt)) (same M1 refl (lit< tt)) ∙ sym (eq_z-true _ _ p.1))
    (λ o. kept-other u i o ∙ same i o inside)

-- where they agree in both of two tables, XU does not decide them: they are the same where all other entries are
pub xu-no-matter : (t u : List ℤ) (i : ℕ) → alarms_agree t ≡ true → alarms_agree u ≡ true
    → ((j : ℕ) → is_alarm_state j ≡ false → j ≢ XU → entry u j ≡ entry t j) → i ≢ XU → entry u i ≡ entry t i
xu-no-matter t u i agree agreeing same other =
    let p = both (eq_z (entry t AA) (alarm t A1)) (eq_z (entry t AB) (alarm t A2)) agree in
    let q = both (eq_z (entry u AA) (alarm u A1)) (eq_z (entry u AB) (alarm u A2)) agreeing in
    let measured = same M1 refl (λ z. omega arith) in
    by_state (λ (k : ℕ). entry u k ≡ entry t k) i
    (eq_z-true _ _ q.0 ∙ alarm-by u t A1 (same A1 refl (λ z. omega arith)) measured ∙ sym (eq_z-true _ _ p.0))
    (eq_z-true _ _ q.1 ∙ alarm-by u t A2 (same A2 refl (λ z. omega arith)) measured ∙ sym (eq_z-true _ _ p.1))
    (λ o. same i o other)
