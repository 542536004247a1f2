-- What holds of every message, over the one definition of what comes of it: the reply is short, a number leaves the table, no
-- message changes a read-only item, the alarm states apart, or puts another outside its range, and a good table stays good.
-- Assumes nothing.
use mathlib.Core.Path.{◌≡◌, refl}
use mathlib.Core.Logic.{◌⊎◌, inl}
use mathlib.Core.Bool.{Bool, true, false, cond}
use mathlib.Core.List.{List}
use Prim.Native.Nat.{ℕ, ◌≤◌, ◌<◌}
use native.Mathlib.Omega.{arith}
use borrow.Author.Tests.{eqb-true}
use lib.Dec.{eqb}
use lib.IntN.{ℤ}
use lib.ListN.{length, take, length-take}
use Rattle.numbers.specs.Numbers.{none, unless, unless_met}
use Rattle.numbers.proofs.Tests.{chosen}
use Rattle.numbers.proofs.Order.{either_way}
use Rattle.items.specs.ItemList.{item_at, in_range}
use Rattle.table.specs.Table.{entry, is_alarm_state, good_table}
use Rattle.registers.specs.Faults.{first_word, second_word, read_fault, count_place, data_place, loopback_fault}
use Rattle.registers.proofs.Faults.{Numbered, read-numbered, loopback-numbered, read-accepted, loopback-accepted}
use Rattle.writes.specs.Writes.{Write, writable, inside, each, stored_all}
use Rattle.writes.specs.Requests.{writes_from, write_fault, value_place, several_fault}
use Rattle.writes.proofs.Faults.{Allowed, write-numbered, write_allowed, write-long, several-numbered, several-allowed}
use Rattle.writes.proofs.Stored.{all-read-only, all-in-range, all-good}
use Rattle.modbus.specs.Outcome.{Outcome, other_address, unknown_function, function_of, silent, done, exception_reply, exception}
use Rattle.modbus.specs.Rules.{read_registers, write_register, loopback, write_several, read_reply}
use Rattle.modbus.specs.Rules.{reading, writing, looping_back, writing_several, obeying, ours, acted}
use Rattle.modbus.proofs.Stores.{length-registers}

-- ---- by cases

module _ (P : Outcome → Type 0) (t : List ℤ) (body : List ℕ)
    (exceptions : (number : ℕ) → 30 < number → P (exception t body number)) where
  -- what holds of every exception, and of the outcome where no fault is met
  by-fault : (fault : ℕ) {o : Outcome} → Numbered fault → (fault ≡ none → P o) → P (unless_met fault (exception t body) o)
  by-fault fault {o} n = either_way fault (exception t body) o P (λ met. exceptions fault (n met))

  -- what holds of every exception and of what each function does holds of every message at our address
  obeyed : (function_of body ≡ read_registers → read_fault body ≡ none → P (done (read_reply t body) t))
      → (function_of body ≡ write_register → write_fault body ≡ none → P (done body (stored_all t (writes_from value_place body))))
      → (function_of body ≡ loopback → loopback_fault body ≡ none → P (done body t))
      → (function_of body ≡ write_several → several_fault body ≡ none
      → P (done (take count_place body) (stored_all t (writes_from data_place body))))
      → P (obeying t body)
  unfolding obeying reading writing looping_back writing_several
  obeyed r w l s =
      by-function read_registers (by-fault (read_fault body) (read-numbered body)) r
      (by-function write_register (by-fault (write_fault body) (write-numbered body)) w
      (by-function loopback (by-fault (loopback_fault body) (loopback-numbered body)) l
      (by-function write_several (by-fault (several_fault body) (several-numbered body)) s
      (exceptions unknown_function (omega arith)))))
    where
      -- what a function does where it is asked for, and else what the others do
      by-function : (function : ℕ) {o p : Outcome} {F : Type 0} → (F → P o) → (function_of body ≡ function → F) → P p
          → P (cond (eqb (function_of body) function) o p)
      by-function function does asked others = chosen P (eqb (function_of body) function) (λ q. does (asked (eqb-true _ _ q))) (λ q. others)

-- what holds of silence too holds of every message
pub every : (P : Outcome → Type 0) (t : List ℤ) (address : ℕ) (body : List ℕ) → P (silent t other_address)
    → ((number : ℕ) → 30 < number → P (exception t body number))
    → (function_of body ≡ read_registers → read_fault body ≡ none → P (done (read_reply t body) t))
    → (function_of body ≡ write_register → write_fault body ≡ none → P (done body (stored_all t (writes_from value_place body))))
    → (function_of body ≡ loopback → loopback_fault body ≡ none → P (done body t))
    → (function_of body ≡ write_several → several_fault body ≡ none
    → P (done (take count_place body) (stored_all t (writes_from data_place body))))
    → P (acted t address body)
unfolding acted
every P t address body q e r w l s = by (ours address body)
  where
    by : (b : Bool) → P (unless_met (unless b other_address) (silent t) (obeying t body))
    by true = obeyed P t body e r w l s
    by false = q

-- what holds of the table as it came, and after writes that are allowed, holds of the table after every message
every-table : (Q : List ℤ → Type 0) (t : List ℤ) (address : ℕ) (body : List ℕ) → Q t
    → ((ws : List Write) → each writable ws ≡ true → each inside ws ≡ true → Q (stored_all t ws))
    → Q (acted t address body).table
every-table Q t address body q w =
    every (λ (o : Outcome). Q o.table) t address body q (λ number h. q) (λ f e. q) (λ f e. by (write_allowed body e)) (λ f e. q)
    (λ f e. by (several-allowed body e))
  where
    by : {right : Bool} {ws : List Write} → Allowed right ws → Q (stored_all t ws)
    by {ws = ws} a = w ws a.registers a.values

-- ---- the laws

module _ (t : List ℤ) (address : ℕ) (body : List ℕ) where
  -- a reply has at most 125 bytes: with what either line makes of it, it has room in every buffer that is accepted
  pub reply-short : length (acted t address body).reply ≤ 125
  unfolding exception_reply read_reply
  reply-short =
      every (λ (o : Outcome). length o.reply ≤ 125) t address body (omega arith) (λ number h. omega arith)
      (λ f q. let r = read-accepted body q in omega (arith, length-registers t (first_word body) (second_word body)))
      (λ f q. let w = write-long body q in omega arith)
      (λ f q. let l = loopback-accepted body q in omega arith)
      (λ f q. simp length-take (omega arith))

  -- a message that is given a number, 23 or an exception, leaves the table
  pub number-leaves-table : ((acted t address body).number ≡ none → ⊥) → (acted t address body).table ≡ t
  number-leaves-table =
      every (λ (o : Outcome). (o.number ≡ none → ⊥) → o.table ≡ t) t address body (λ h. refl) (λ number n h. refl) (λ f q h. refl)
      (λ f q h. absurd (h refl))
      (λ f q h. refl)
      (λ f q h. absurd (h refl))

  -- a number that is no exception is given in silence
  pub number-silent : ((acted t address body).number ≡ none → ⊥) → (acted t address body).number ≤ 30
      → acted t address body ≡ silent t (acted t address body).number
  number-silent =
      every (λ (o : Outcome). (o.number ≡ none → ⊥) → o.number ≤ 30 → o ≡ silent t o.number) t address body (λ h k. refl)
      (λ number n h k. absurd (omega arith))
      (λ f q h. absurd (h refl))
      (λ f q h. absurd (h refl))
      (λ f q h. absurd (h refl))
      (λ f q h. absurd (h refl))

  -- no message changes the entry of a read-only item, the alarm states apart
  pub read-only-stays : (j : ℕ) → (item_at j).writable ≡ false → is_alarm_state j ≡ false → entry (acted t address body).table j ≡ entry t j
  read-only-stays j r o =
      every-table (λ (s : List ℤ). entry s j ≡ entry t j) t address body refl (λ ws w i. all-read-only t ws j w r o)

  -- whatever the table, each entry is left as it was or in its range
  pub stays-or-in-range : (j : ℕ)
      → (entry (acted t address body).table j ≡ entry t j) ⊎ (in_range j (entry (acted t address body).table j) ≡ true)
  stays-or-in-range j =
      every-table (λ (s : List ℤ). (entry s j ≡ entry t j) ⊎ (in_range j (entry s j) ≡ true)) t address body (inl refl)
      (λ ws w i. all-in-range t ws j i)

  -- a good table stays good, so every writable entry stays in its range
  pub good-stays : good_table t ≡ true → good_table (acted t address body).table ≡ true
  good-stays g = every-table (λ (s : List ℤ). good_table s ≡ true) t address body g (λ ws w i. all-good t ws g i)
