-- What comes of a call: a refusal, or the message's outcome with its reply in the form of the line.
-- Assumes nothing.
use mathlib.Core.Path.{◌≡◌, refl, sym, ap, ◌∙◌}
use mathlib.Core.Bool.{Bool, true, false, cond}
use mathlib.Core.List.{List, [], ◌∷◌}
use Prim.Native.Nat.{ℕ, ◌≤◌}
use native.Mathlib.Omega.{arith}
use lib.Dec.{eqb}
use lib.IntN.{ℤ}
use lib.ListN.{length}
use lib.Seq.{sets}
use Rattle.numbers.specs.Numbers.{none, unless_met}
use Rattle.numbers.proofs.Order.{is-refused, is-done, either_way}
use Rattle.modbus.specs.declared.Answered.{Answered}
use Rattle.modbus.specs.Outcome.{Outcome, silent}
use Rattle.modbus.specs.Rules.{acted}
use Rattle.modbus.specs.Promise.{Gives}
use Rattle.modbus.proofs.Acting.{gives-by, gives-silence}
use Rattle.modbus.proofs.Laws.{reply-short}
use Rattle.call.specs.Call.{Call, call_fault, refusal, sent_as, sending, answered_as}
use Rattle.call.proofs.Faults.{refused-call, refused-fault}

-- ---- what comes of a call, by cases

module _ (form : List ℕ → List ℕ) (call : Call) (fault : ℕ) (body : List ℕ) where
  -- what the message rules make of the body, with the reply in the form of the line
  abbrev pub ruled : Outcome
  ruled = sending form (acted call.table call.address body)

  is-silent : (refusal call fault ≡ none → ⊥) → answered_as form call fault body ≡ silent call.table (refusal call fault)
  unfolding answered_as
  is-silent = is-refused (refusal call fault) (silent call.table) ruled

  pub is-ruled : refusal call fault ≡ none → answered_as form call fault body ≡ ruled
  unfolding answered_as
  is-ruled = is-done (refusal call fault) (silent call.table) ruled

  -- the line gives the outcome its form, and nothing else
  pub as-sent : answered_as form call fault body ≡ sending form (unless_met (refusal call fault) (silent call.table) (acted call.table call.address body))
  unfolding answered_as
  as-sent = by (eqb (refusal call fault) none)
    where
      by : (b : Bool)
          → cond b ruled (silent call.table (refusal call fault))
          ≡ sending form (cond b (acted call.table call.address body) (silent call.table (refusal call fault)))
      by true = refl
      by false = refl

  -- the caller's fault, or where there is none that of what the line brought
  pub fault-silent : (call_fault call ≡ none → ⊥) → answered_as form call fault body ≡ silent call.table (call_fault call)
  fault-silent h =
      let e = refused-call call fault in
      is-silent (λ z. h (sym (e h) ∙ z)) ∙ ap (silent call.table) (e h)

  pub brought-silent : call_fault call ≡ none → (fault ≡ none → ⊥) → answered_as form call fault body ≡ silent call.table fault
  brought-silent e h =
      let met = refused-fault call fault e in
      is-silent (λ z. h (sym met ∙ z)) ∙ ap (silent call.table) met

  -- what holds of a silent outcome and of every message's holds of every call's
  pub every_call : (P : Outcome → Type 0) → ((number : ℕ) → P (silent call.table number)) → P ruled
      → P (answered_as form call fault body)
  unfolding answered_as
  every_call P s a =
      either_way (refusal call fault) (silent call.table) ruled P (λ met. s (refusal call fault)) (λ e. a)

-- ---- a reply in the form of its line

module _ (form : List ℕ → List ℕ) where
  -- a reply that has bytes
  pub sent-some : (reply : List ℕ) → (length reply ≡ 0 → ⊥) → sent_as form reply ≡ form reply
  sent-some [] h = absurd (h refl)
  sent-some (b ∷ reply) h = refl

  sent-none : (reply : List ℕ) → length reply ≡ 0 → sent_as form reply ≡ reply
  sent-none [] h = refl
  sent-none (b ∷ reply) h = absurd (omega arith)

  -- a bound on the form of every short body is one on every reply
  pub reply-bound : (most : ℕ) → ((body : List ℕ) → length body ≤ 125 → length (form body) ≤ most) → (call : Call) (fault : ℕ)
      (body : List ℕ)
      → length (answered_as form call fault body).reply ≤ most
  reply-bound most h call fault body =
      every_call form call fault body (λ (o : Outcome). length o.reply ≤ most) (λ number. omega arith)
      (by (acted call.table call.address body).reply (reply-short call.table call.address body))
    where
      by : (reply : List ℕ) → length reply ≤ 125 → length (sent_as form reply) ≤ most
      by [] k = omega arith
      by (b ∷ reply) k = h (b ∷ reply) k

  module _ {o : Outcome} {a : Answered} {before mid : List ℕ} {left : List ℤ} (g : Gives o a before mid left) where
    -- a message that nothing was replied to
    pub gives-silent : a.len ≡ 0 → Gives (sending form o) a before mid left
    gives-silent e =
        let same = sent-none o.reply (sym g.sends.len ∙ e) in
        record {
          sends = record {
            given = g.sends.given;
            len = g.sends.len ∙ ap length (sym same);
            sent = g.sends.sent ∙ ap (sets before 0) (sym same);
          };
          table = g.table;
        }

  -- a message whose reply was brought into the form of the line
  pub gives-formed : (o : Outcome) {number len : ℕ} {before after : List ℕ} {left : List ℤ} → number ≡ o.number → left ≡ o.table
      → (length o.reply ≡ 0 → ⊥) → len ≡ length (form o.reply) → after ≡ sets before 0 (form o.reply)
      → Gives (sending form o) (record { number = number; len = len }) before after left
  gives-formed o {before = before} given table some long stored =
      let formed = sent-some o.reply some in
      record {
        sends = record { given = given; len = long ∙ ap length (sym formed); sent = stored ∙ ap (sets before 0) (sym formed) };
        table = table;
      }

-- ---- what a call gives

module _ (form : List ℕ → List ℕ) (call : Call) (fault : ℕ) (body : List ℕ) where
  -- one that is refused
  pub gives-refused : {number : ℕ} → number ≡ refusal call fault → (number ≡ none → ⊥)
      → Gives (answered_as form call fault body) (record { number = number; len = 0 }) call.buffer call.buffer call.table
  gives-refused {number} e h =
      let o = is-silent form call fault body (λ z. h (e ∙ z)) ∙ ap (silent call.table) (sym e) in
      gives-by (sym o) (gives-silence call.table number call.buffer _ refl)

  -- one that is answered
  pub gives-ruled : {number : ℕ} {r : Answered} {after : List ℕ} {left : List ℤ} → number ≡ refusal call fault → number ≡ none
      → Gives (ruled form call fault body) r call.buffer after left
      → Gives (answered_as form call fault body) r call.buffer after left
  gives-ruled e z g = gives-by (sym (is-ruled form call fault body (sym e ∙ z))) g
