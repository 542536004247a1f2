-- The rules of a request to write one by one, and what is known of one that meets no fault.
-- Assumes nothing.
use mathlib.Core.Path.{◌≡◌, refl, sym, ap, ◌∙◌}
use mathlib.Core.Bool.{Bool, true, false, cond, ◌&&◌, and-true}
use mathlib.Core.List.{List, [], ◌∷◌}
use Prim.Native.Nat.{ℕ, ◌+◌, ◌<◌}
use native.Mathlib.Omega.{arith}
use borrow.Author.Tests.{eqb-true}
use lib.Dec.{eqb}
use lib.IntN.{ℤ}
use lib.ListN.{length, drop, length-drop, drop_of_length-le}
use lib.Seq.{drop-cons}
use Rattle.numbers.specs.Numbers.{none, unless}
use Rattle.numbers.specs.Promise.{Lent}
use Rattle.numbers.proofs.Order.{either_first, last-met, passed, is-refused, is-done}
use Rattle.numbers.proofs.Refusals.{refusal-met}
use Rattle.items.specs.ItemList.{map_size, place_of}
use Rattle.registers.specs.Register.{of_register}
use Rattle.registers.specs.Faults.{wrong_register, wrong_data, body_length, right_length, first_word, second_word, data_place, right_counts}
use Rattle.registers.proofs.Faults.{Numbered, none-numbered, register-numbered, data-numbered, Counted, counted}
use Rattle.writes.specs.Writes.{Write, writable, inside, allowed, each, request_fault, stored_all, stored_unless}
use Rattle.writes.specs.Requests.{writes_from, value_place, write_fault, several_fault}
use Rattle.writes.proofs.ReadBack.{length-writes, span-past-map}

module _ (right : Bool) (ws : List Write) where
  pub form-wrong : right ≡ false → request_fault right ws ≡ wrong_data
  unfolding request_fault
  form-wrong f = rw f

  pub register-wrong : right ≡ true → each writable ws ≡ false → request_fault right ws ≡ wrong_register
  unfolding request_fault
  register-wrong f w = rw (f, w)

  pub registers-right : right ≡ true → each writable ws ≡ true → {b : Bool} → b ≡ each inside ws
      → request_fault right ws ≡ unless b wrong_data
  unfolding request_fault
  registers-right f w e = rw (f, w, ← e) (last-met _)

  pub request-numbered : Numbered (request_fault right ws)
  unfolding request_fault
  request-numbered =
      either_first _ _ Numbered (data-numbered right)
      (either_first _ _ Numbered (register-numbered (each writable ws))
      (either_first _ _ Numbered (data-numbered (each inside ws)) none-numbered))

  -- what a request that meets no fault is
  pub record Allowed : Type 0 where
    pub form : right ≡ true
    pub registers : each writable ws ≡ true
    pub values : each inside ws ≡ true

  pub request-allowed : request_fault right ws ≡ none → Allowed
  unfolding request_fault
  request-allowed e =
      let f = passed right wrong_data _ (omega arith) e in
      let w = passed (each writable ws) wrong_register _ (omega arith) f.1 in
      record { form = f.0; registers = w.0; values = (passed (each inside ws) wrong_data _ (omega arith) w.1).0 }

-- a request meets no fault exactly when its form is right and each of its writes allowed
pub none-where-allowed : (right : Bool) (ws : List Write) → eqb (request_fault right ws) none ≡ right && each allowed ws
unfolding request_fault
none-where-allowed right ws = by right (each writable ws) (each inside ws) ∙ ap (λ (b : Bool). right && b) (sym (each-allowed ws))
  where
    by : (r w i : Bool) → eqb (cond (eqb (unless r wrong_data) none) (cond (eqb (unless w wrong_register) none) (cond (eqb (unless i wrong_data) none) none (unless i wrong_data)) (unless w wrong_register)) (unless r wrong_data)) none
        ≡ r && (w && i)
    by true true true = refl
    by true true false = refl
    by true false i = refl
    by false w i = refl

    each-allowed : (ws : List Write) → each allowed ws ≡ each writable ws && each inside ws
    each-allowed [] = refl
    each-allowed (w ∷ ws) = ap (λ (b : Bool). allowed w && b) (each-allowed ws) ∙ swap (writable w) (inside w) (each writable ws) (each inside ws)
      where
        swap : (a b c d : Bool) → (a && b) && (c && d) ≡ (a && c) && (b && d)
        swap true true c d = refl
        swap true false true d = refl
        swap true false false d = refl
        swap false b c d = refl

-- ---- all or none

module _ (fault : ℕ) (t : List ℤ) (ws : List Write) {number : ℕ} where
  -- what keeps the promise: the table as it came with a fault, and all writes stored with none
  pub none-stored : number ≡ fault → (number ≡ none → ⊥) → Lent fault (stored_unless fault t ws) number t
  unfolding stored_unless
  none-stored e h = record { given = e; left = sym (is-refused fault (λ n. t) (stored_all t ws) (λ z. h (e ∙ z))) }

  pub all-stored : {left : List ℤ} → number ≡ fault → number ≡ none → left ≡ stored_all t ws
      → Lent fault (stored_unless fault t ws) number left
  unfolding stored_unless
  all-stored e h s = record { given = e; left = s ∙ sym (is-done fault (λ n. t) (stored_all t ws) (sym e ∙ h)) }

  -- and what a caller learns from it
  pub left-none : {left : List ℤ} → Lent fault (stored_unless fault t ws) number left → (number ≡ none → ⊥) → left ≡ t
  unfolding stored_unless
  left-none l h = l.left ∙ is-refused fault (λ n. t) (stored_all t ws) (λ z. h (l.given ∙ z))

  pub left-all : {left : List ℤ} → Lent fault (stored_unless fault t ws) number left → number ≡ none → left ≡ stored_all t ws
  unfolding stored_unless
  left-all l h = l.left ∙ is-done fault (λ n. t) (stored_all t ws) (sym l.given ∙ h)

-- ---- 06H

module _ (body : List ℕ) where
  pub write-numbered : Numbered (write_fault body)
  unfolding write_fault
  write-numbered = request-numbered (right_length body) (writes_from value_place body)

  pub write_allowed : write_fault body ≡ none → Allowed (right_length body) (writes_from value_place body)
  unfolding write_fault
  write_allowed = request-allowed (right_length body) (writes_from value_place body)

  -- a request that meets no fault is as long as it must be
  pub write-long : write_fault body ≡ none → length body ≡ body_length
  write-long e = eqb-true _ _ (write_allowed e).form

module _ (body : List ℕ) (six : length body ≡ body_length) where
  -- one of that length writes its second word to the register of its first
  abbrev pub one : Write
  one = record { place = place_of (first_word body); value = of_register (second_word body) }

  pub one-write : writes_from value_place body ≡ one ∷ []
  one-write =
      rw (drop-cons body 4 0 (omega arith), drop-cons body 5 0 (omega arith), drop_of_length-le body {i = 6} (omega arith))

  -- so a test of each write is a test of that one
  pub one-tested : (test : Write → Bool) → each test (writes_from value_place body) ≡ test one
  one-tested test = ap (each test) one-write ∙ and-true (test one)

-- ---- 10H

module _ (body : List ℕ) where
  pub several-numbered : Numbered (several_fault body)
  unfolding several_fault
  several-numbered = request-numbered (right_counts body) (writes_from data_place body)

  pub several-allowed : several_fault body ≡ none → Allowed (right_counts body) (writes_from data_place body)
  unfolding several_fault
  several-allowed = request-allowed (right_counts body) (writes_from data_place body)

-- where length, quantity and byte count agree, there are as many writes as the quantity says
pub several-writes : (body : List ℕ) → Counted body → length (writes_from data_place body) ≡ second_word body
several-writes body c =
    let bytes = length-drop data_place body in
    let many = length-writes (first_word body) (drop data_place body) in
    omega arith

module _ (body : List ℕ) where
  -- a span that leaves the map meets a fault
  pub several-past : right_counts body ≡ true → map_size < first_word body + second_word body → several_fault body ≡ wrong_register
  unfolding several_fault
  several-past form past =
      let k = counted body form in
      let many = several-writes body k in
      register-wrong _ _ form (span-past-map (first_word body) (drop data_place body) (omega arith) (omega arith))

  -- so a request that meets none has right counts, and its span in the map
  pub several-counts : several_fault body ≡ none → right_counts body ≡ true
  several-counts e = (several-allowed body e).form

-- what judging goes by, and what storing does
pub ruleset to_judge = (several-past)

pub ruleset to_store = (none-stored, all-stored, several-counts, several-past, refusal-met)
