-- What comes of a message, case by case: by its fault, by its function, and by its address and the buffer's room.
-- Assumes nothing.
use mathlib.Core.Path.{◌≡◌, refl, sym, ap, ap₂, subst, subst⁻¹, ◌∙◌}
use mathlib.Core.Bool.{true, false}
use mathlib.Core.List.{List, ◌++◌}
use Prim.Native.Nat.{ℕ, ◌≤◌, ◌<◌}
use borrow.Author.Tests.{ne_eqb, le-leb, lt-leb}
use lib.IntN.{ℤ}
use native.Mathlib.Omega.{arith}
use lib.ListN.{length, take, drop, take-append-drop}
use lib.Seq.{sets, length-take-le}
use Rattle.std.proofs.lemmas.Bool.Decides.{nat_tests}
use Rattle.numbers.specs.declared.Refusal.{Refusal}
use Rattle.numbers.specs.Numbers.{none, unless_met, short_buffer, least_buffer}
use Rattle.numbers.specs.Refusals.{number_of}
use Rattle.numbers.proofs.Refusals.{refusal-met}
use Rattle.numbers.proofs.Order.{is-refused, is-done}
use Rattle.registers.proofs.Faults.{Numbered, numbered_of}
use Rattle.modbus.specs.declared.Answered.{Answered}
use Rattle.modbus.specs.Outcome.{Outcome, other_address, unknown_function, silent, exception}
use Rattle.modbus.specs.Outcome.{head_length, function_of}
use Rattle.modbus.specs.Rules.{read_registers, write_register, loopback, write_several, ours}
use Rattle.modbus.specs.Rules.{reading, writing, looping_back, writing_several, obeying, acted, acted_within}
use Rattle.modbus.specs.Promise.{Gives, Puts, Refuses}
use Rattle.modbus.proofs.Stores.{sets-front}

-- ---- a fault, or none

pub gives-by : {o p : Outcome} → p ≡ o → {r : Answered} {before after : List ℕ} {left : List ℤ} → Gives p r before after left
    → Gives o r before after left
gives-by e {r} {before} {after} {left} g = subst (λ (o : Outcome). Gives o r before after left) e g

module _ (fault : ℕ) (t : List ℤ) (body : List ℕ) (o : Outcome) where
  -- a refusal by the fault's number, which leaves table and buffer
  pub refused : {refusal : Refusal} {left : List ℤ} {before : List ℕ} → Numbered fault → number_of refusal ≡ fault → left ≡ t
      → Refuses (unless_met fault (exception t body) o) refusal body before before left
  refused {refusal} n e l =
      record {
        code = numbered_of n e (refusal-met refusal);
        outcome = is-refused fault (exception t body) o (λ z. refusal-met refusal (e ∙ z))
            ∙ ap₂ (λ (s : List ℤ) (number : ℕ). exception s body number) (sym l) (sym e);
        unsent = refl;
      }

  -- a reply where no fault is met
  pub accepted : {n : ℕ} {before after : List ℕ} {left : List ℤ} → none ≡ fault → Puts o.reply n before after → o.number ≡ none
      → left ≡ o.table → Gives (unless_met fault (exception t body) o) (record { number = none; len = n }) before after left
  accepted e p n l =
      gives-by (sym (is-done fault (exception t body) o (sym e)))
      (record { sends = record { given = sym n; len = p.len; sent = p.sent }; table = l })

-- ---- the function, the address and the room

module _ (t : List ℤ) (body : List ℕ) where
  pub obeying-read : function_of body ≡ read_registers → obeying t body ≡ reading t body
  unfolding obeying
  obeying-read e = rw e

  pub obeying-write : function_of body ≡ write_register → obeying t body ≡ writing t body
  unfolding obeying
  obeying-write e = rw e

  pub obeying-loopback : function_of body ≡ loopback → obeying t body ≡ looping_back t body
  unfolding obeying
  obeying-loopback e = rw e

  pub obeying-several : function_of body ≡ write_several → obeying t body ≡ writing_several t body
  unfolding obeying
  obeying-several e = rw e

  pub obeying-other : (function_of body ≡ read_registers → ⊥) → (function_of body ≡ write_register → ⊥) → (function_of body ≡ loopback → ⊥)
      → (function_of body ≡ write_several → ⊥) → obeying t body ≡ exception t body unknown_function
  unfolding obeying
  obeying-other r w l s =
      rw (
        ne_eqb (function_of body) read_registers r,
        ne_eqb (function_of body) write_register w,
        ne_eqb (function_of body) loopback l,
        ne_eqb (function_of body) write_several s,
      )

module _ (t : List ℤ) (address : ℕ) (body : List ℕ) where
  pub acted-ours : ours address body ≡ true → acted t address body ≡ obeying t body
  unfolding acted
  acted-ours e = rw e

  pub acted-other : ours address body ≡ false → acted t address body ≡ silent t other_address
  unfolding acted
  acted-other e = rw e

  pub within-room : (room : ℕ) → least_buffer ≤ room → acted_within t room address body ≡ acted t address body
  unfolding acted_within
  within-room room h = rw (le-leb least_buffer room h)

  pub without-room : (room : ℕ) → room < least_buffer → acted_within t room address body ≡ silent t short_buffer
  unfolding acted_within
  without-room room h = rw (lt-leb least_buffer room h)

-- a message that is ours has an address and a function
pub ours-head : (address : ℕ) (body : List ℕ) → ours address body ≡ true → head_length ≤ length body
ours-head address body e = grind (arith, nat_tests)

-- silence leaves the buffer and the table
pub gives-silence : (t : List ℤ) (number : ℕ) (buffer : List ℕ) (r : Answered) → r ≡ record { number = number; len = 0 }
    → Gives (silent t number) r buffer buffer t
gives-silence t number buffer r e =
    subst⁻¹ (λ (a : Answered). Gives (silent t number) a buffer buffer t) e
    (record { sends = record { given = refl; len = refl; sent = refl }; table = refl })

-- a reply in the buffer's front, in which it has room, is in the buffer
pub gives-front : {o : Outcome} {r : Answered} (buffer : List ℕ) {front after : List ℕ} {left : List ℤ} → least_buffer ≤ length buffer
    → length o.reply ≤ least_buffer → front ≡ take least_buffer buffer → Gives o r front after left
    → Gives o r buffer (after ++ drop least_buffer buffer) left
gives-front {o} buffer {front} {after} room short is g =
    let rest = drop least_buffer buffer in
    let long : length (take least_buffer buffer) ≡ least_buffer = length-take-le least_buffer buffer room in
    record {
      sends = record {
        given = g.sends.given;
        len = g.sends.len;
        sent = ap (λ (l : List ℕ). l ++ rest) (g.sends.sent ∙ ap (λ (l : List ℕ). sets l 0 o.reply) is)
            ∙ sym (sets-front (take least_buffer buffer) rest 0 o.reply (omega arith))
            ∙ ap (λ (l : List ℕ). sets l 0 o.reply) (take-append-drop least_buffer buffer);
      };
      table = g.table;
    }
