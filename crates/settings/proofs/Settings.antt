-- What is claimed in specs/Settings.antt of every message.
-- Assumes nothing.
use mathlib.Core.Path.{◌≡◌, refl, sym, ap, ap₂, subst⁻¹, ◌∙◌}
use mathlib.Core.Logic.{◌⊎◌, inl, inr, ⊎_elim}
use mathlib.Core.Bool.{Bool, true, false}
use mathlib.Core.List.{List, [], ◌∷◌, ◌++◌}
use Prim.Native.Nat.{ℕ, ◌+◌, ◌*◌, ◌≤◌, ◌<◌}
use native.Mathlib.Omega.{arith}
use borrow.Author.Tests.{eqb-true, eqb-false, eq-eqb, ne_eqb, le-leb}
use lib.Dec.{eqb, leb}
use lib.IntN.{ℤ}
use lib.ListN.{length, get_or, drop, length-drop}
use lib.Seq.{get_or-drop}
use Rattle.numbers.specs.Numbers.{none}
use Rattle.numbers.proofs.Tests.{both}
use Rattle.numbers.proofs.Order.{is-done}
use Rattle.items.specs.ItemList.{map_size}
use Rattle.table.specs.Table.{entry}
use Rattle.table.proofs.Laws.{good-alarms}
use Rattle.registers.specs.Register.{high_first, registers_from}
use Rattle.registers.specs.Faults.{first_word, second_word, in_map, read_fault, data_place}
use Rattle.registers.proofs.Faults.{read-span, counted}
use Rattle.writes.specs.Writes.{writes, writable, each, stored_all}
use Rattle.writes.specs.Requests.{value_place}
use Rattle.writes.proofs.Faults.{write_allowed, write-long, several-allowed}
use Rattle.writes.proofs.Stored.{all-given}
use Rattle.writes.proofs.ReadBack.{length-writes, span-in-map, outside-stays, reads-back}
use Rattle.modbus.specs.Outcome.{Outcome, done, exception, head_length, address_of, function_of}
use Rattle.modbus.specs.Rules.{read_registers, write_register, loopback, write_several, read_reply, reading, ours, acted}
use Rattle.settings.specs.Settings.{data_of, writes_of, ToWrite, OfWriting}
use Rattle.modbus.proofs.Acting.{obeying-read, acted-ours, acted-other}
use Rattle.modbus.proofs.Laws.{every, number-leaves-table, good-stays}

-- ---- what a message writes

-- the data of a message, by its function
module _ (body : List ℕ) where
  pub data-one : function_of body ≡ write_register → data_of body ≡ drop value_place body
  data-one f = rw f

  pub data-several : function_of body ≡ write_several → data_of body ≡ drop data_place body
  data-several f = rw f

  pub data-none : (function_of body ≡ write_register → ⊥) → (function_of body ≡ write_several → ⊥) → data_of body ≡ []
  data-none w s = rw (ne_eqb (function_of body) write_register w, ne_eqb (function_of body) write_several s)

  -- it is of bytes where the message is
  data-bytes : ToWrite body → ((i : ℕ) → get_or body i 0 < 256) → (i : ℕ) → get_or (data_of body) i 0 < 256
  data-bytes w b i =
      ⊎_elim
      (λ f. rw (data-one f, get_or-drop value_place body i 0) (b (value_place + i)))
      (λ f. rw (data-several f, get_or-drop data_place body i 0) (b (data_place + i)))
      w

-- what is known of the table, and of the bytes that were written, after a message that is given no number
record Written (t left : List ℤ) (body bytes : List ℕ) : Type 0 where
  stored : left ≡ stored_all t (writes (first_word body) bytes)
  registers : each writable (writes (first_word body) bytes) ≡ true
  even : length bytes ≡ 2 * length (writes (first_word body) bytes)
  few : length (writes (first_word body) bytes) ≤ 123
  some : ToWrite body → 1 ≤ length (writes (first_word body) bytes)

module _ (t : List ℤ) (address : ℕ) (body : List ℕ) where
  none_written : (function_of body ≡ read_registers) ⊎ (function_of body ≡ loopback) → Written t t body (data_of body)
  none_written f =
      let one : function_of body ≡ write_register → ⊥ = λ e. ⊎_elim (λ r. omega arith) (λ l. omega arith) f in
      let several : function_of body ≡ write_several → ⊥ = λ e. ⊎_elim (λ r. omega arith) (λ l. omega arith) f in
      subst⁻¹ (Written t t body) (data-none body one several)
      (record { stored = refl; registers = refl; even = refl; few = omega arith; some = λ w. absurd (⊎_elim one several w) })

  -- the registers that a right request has data for
  some_written : (place quantity : ℕ) → data_of body ≡ drop place body → length body ≡ place + 2 * quantity → 1 ≤ quantity
      → quantity ≤ 123 → each writable (writes (first_word body) (drop place body)) ≡ true
      → Written t (stored_all t (writes (first_word body) (drop place body))) body (data_of body)
  some_written place quantity d l s f a =
      let bytes = length-drop place body in
      let registers = length-writes (first_word body) (drop place body) in
      subst⁻¹ (Written t _ body) d
      (record { stored = refl; registers = a; even = omega arith; few = omega arith; some = λ w. omega arith })

  all-written : (acted t address body).number ≡ none → Written t (acted t address body).table body (data_of body)
  all-written =
      every (λ (o : Outcome). o.number ≡ none → Written t o.table body (data_of body)) t address body
      (λ h. absurd (omega arith))
      (λ number n h. absurd (omega arith))
      (λ f q h. none_written (inl f))
      (λ f q h. let long = write-long body q in
      some_written value_place 1 (data-one body f) (omega arith) (omega arith) (omega arith) (write_allowed body q).registers)
      (λ f q h. none_written (inr f))
      (λ f q h. let c = counted body (several-allowed body q).form in
      some_written data_place (second_word body) (data-several body f) (omega arith) c.some c.few (several-allowed body q).registers)

  is_ours : (acted t address body).number ≡ none → ours address body ≡ true
  is_ours h = by (ours address body) refl
    where
      by : (b : Bool) → ours address body ≡ b → ours address body ≡ true
      by true e = e
      by false e = absurd (let z = ap (λ (o : Outcome). o.number) (acted-other t address body e) in omega arith)

  -- what holds of the table as it came, and of what a message that is given no number leaves, holds of what every message leaves
  or-none : (Q : List ℤ → Type 0) → Q t → ((acted t address body).number ≡ none → Q (acted t address body).table)
      → Q (acted t address body).table
  or-none Q q w = by (eqb (acted t address body).number none) refl
    where
      by : (b : Bool) → eqb (acted t address body).number none ≡ b → Q (acted t address body).table
      by true e = w (eqb-true _ _ e)
      by false e = subst⁻¹ Q (number-leaves-table t address body (eqb-false _ _ e)) q

-- ---- read back

-- a request to read so many registers from one on, at an address
module _ (t : List ℤ) (address start quantity : ℕ) (some : 1 ≤ quantity) (few : quantity ≤ 123) (span : start + quantity ≤ map_size) where
  abbrev asked : List ℕ
  asked = address ∷ read_registers ∷ (high_first start ++ high_first quantity)

  from : first_word asked ≡ start
  from = omega arith

  many : second_word asked ≡ quantity
  many = omega arith

  reads : acted t address asked ≡ done (address ∷ read_registers ∷ 2 * quantity ∷ registers_from t start quantity) t
  unfolding reading read_reply
  reads =
      let inside : true ≡ in_map (first_word asked) (second_word asked) =
      sym (le-leb (first_word asked + second_word asked) map_size (omega arith)) in
      let fine : read_fault asked ≡ none = read-span asked (omega arith) (omega arith) refl inside in
      acted-ours t address asked (eq-eqb address address refl) ∙ obeying-read t asked refl
      ∙ is-done (read_fault asked) (exception t asked) (done (read_reply t asked) t) fine
      ∙ ap₂ (λ (s n : ℕ). done (address ∷ read_registers ∷ 2 * n ∷ registers_from t s n) t) from many

-- ---- the claim

pub writing-claimed : (t : List ℤ) (address : ℕ) (body : List ℕ) → OfWriting t address body
writing-claimed t address body =
    let left = (acted t address body).table in
    let written = all-written t address body in
    record {
      refused_leaves = λ h. number-leaves-table t address body h;
      all_stored = λ h. (written h).stored;
      entry_given = λ h i s l. ap (λ (u : List ℤ). entry u i) (written h).stored ∙ all-given t (writes_of body) i s l;
      outside_stays = λ i s o.
          or-none t address body (λ (u : List ℤ). entry u i ≡ entry t i) refl
          (λ h. ap (λ (u : List ℤ). entry u i) (written h).stored
          ∙ outside-stays t (first_word body) (data_of body) i s (written h).registers o);
      alarms_stay_true = λ g. good-alarms left (good-stays t address body g);
      reads_back = λ h w b l.
          let start = first_word body in
          let quantity = length (writes_of body) in
          let mine : address_of body ≡ address =
          eqb-true (address_of body) address (both (leb head_length (length body)) (eqb (address_of body) address) (is_ours t address body h)).1 in
          let span = span-in-map start (data_of body) (written h).registers ((written h).some w) in
          let back : registers_from left start quantity ≡ data_of body =
          ap (λ (s : List ℤ). registers_from s start quantity) (written h).stored
          ∙ reads-back t start (data_of body) l (written h).registers (data-bytes body w b) (written h).even in
          ap (λ (a : ℕ). acted left address (a ∷ read_registers ∷ (high_first start ++ high_first quantity))) mine
          ∙ reads left address start quantity ((written h).some w) (written h).few span
          ∙ ap₂ (λ (n : ℕ) (bytes : List ℕ). done (address ∷ read_registers ∷ n ∷ bytes) left) (sym (written h).even) back
          ∙ ap (λ (a : ℕ). done (a ∷ read_registers ∷ length (data_of body) ∷ data_of body) left) (sym mine);
    }
