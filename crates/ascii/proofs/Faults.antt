-- A line's fault, by the bytes that are taken of it, and what is known of a line that has none.
-- Assumes nothing.
use Rattle.std.proofs.Common.{◌≡◌, ℕ, ◌-◌, ◌<◌, ◌≤◌, Bool, true, false, cond, ◌&&◌, eqb, leb, List, [], ◌∷◌, ◌++◌, length, length-append, take_at, take, sym, refl, ap, ◌∙◌, ap₂, arith, take-take}
use lib.Seq.{get_or_at}
use Rattle.numbers.specs.Numbers.{none, unless, first_met}
use Rattle.numbers.proofs.Tests.{both}
use Rattle.numbers.proofs.Order.{last-met, passed}
use Rattle.ascii.specs.Hexadecimal.{bytes_of}
use Rattle.ascii.specs.Line.{wrong_line, wrong_lrc, dropped, behind_colon, ends_in_cr_lf, before_cr_lf, fewest, most, make_bytes}
use Rattle.ascii.specs.Line.{right_form, bytes_in, lrc_of, message_of, lrc_in, right_lrc, line_fault}
use Rattle.ascii.specs.Promise.{bytes_made, bytes_behind, bytes_taken, bytes_fault, Takes}
use Rattle.ascii.proofs.Hexadecimal.{bytes-length}
use Rattle.ascii.proofs.Taken.{are-made}

-- ---- the last of some bytes

module _ (body : List ℕ) (check : ℕ) where
  abbrev sent : List ℕ
  sent = body ++ (check ∷ [])

  one_less : length body ≡ length sent - 1
  one_less = omega (arith, length-append body (check ∷ []))

  pub sent-body : message_of sent ≡ body
  sent-body = take_at body (check ∷ []) (length sent - 1) one_less

  pub sent-last : lrc_in sent ≡ check
  sent-last = get_or_at body check [] 0 (length sent - 1) one_less

  -- it decides
  pub sent-fault : bytes_fault sent ≡ unless (eqb (lrc_of body) check) wrong_lrc
  unfolding bytes_fault
  sent-fault =
      some sent (omega (arith, length-append body (check ∷ [])))
      ∙ ap₂ (λ (b : List ℕ) (l : ℕ). unless (eqb (lrc_of b) l) wrong_lrc) sent-body sent-last
    where
      some : (bytes : List ℕ) → 0 < length bytes → bytes_fault bytes ≡ unless (right_lrc bytes) wrong_lrc
      some [] h = absurd (omega arith)
      some (b ∷ bytes) h = refl

-- ---- a line

-- three tests in turn are one
in-turn : (a b c : Bool) (bytes : List ℕ) → cond a (cond b (cond c bytes []) []) [] ≡ cond (a && b && c) bytes []
in-turn true true c bytes = refl
in-turn true false c bytes = refl
in-turn false b c bytes = refl

module _ (line : List ℕ) where
  -- the bytes of a line of the right form are taken, and of any other none
  by_form : bytes_taken line ≡ cond (right_form line) (bytes_in line) []
  unfolding bytes_taken bytes_behind bytes_made right_form bytes_in
  by_form =
      let rest = behind_colon line in
      in-turn (leb 1 (dropped line)) (ends_in_cr_lf rest) (make_bytes (before_cr_lf rest)) (bytes_of (before_cr_lf rest))

  -- a line of the right form has 3 to 255 bytes
  pub right-number : right_form line ≡ true → (fewest ≤ length (bytes_in line)) × (length (bytes_in line) ≤ most)
  unfolding right_form bytes_in
  right-number e =
      let rest = behind_colon line in
      let made = are-made (before_cr_lf rest) (both (leb 1 (dropped line) && ends_in_cr_lf rest) (make_bytes (before_cr_lf rest)) e).1 in
      let long = bytes-length (before_cr_lf rest) in
      (omega (arith, made.least), omega (arith, made.not_more))

  -- the fault of the bytes that are taken is the fault of the line
  pub taken-fault : bytes_fault (bytes_taken line) ≡ line_fault line
  unfolding bytes_fault line_fault
  taken-fault = ap bytes_fault by_form ∙ by (right_form line) (bytes_in line) (λ e. (right-number e).0)
    where
      by : (form : Bool) (bytes : List ℕ) → (form ≡ true → fewest ≤ length bytes)
          → bytes_fault (cond form bytes []) ≡ first_met (unless form wrong_line ∷ unless (right_lrc bytes) wrong_lrc ∷ [])
      by true [] some = absurd (omega (arith, some refl))
      by true (b ∷ bytes) some = sym (last-met (unless (right_lrc (b ∷ bytes)) wrong_lrc))
      by false bytes some = refl

  -- a line without a fault has the right form, so its bytes are those that are taken
  pub form-right : line_fault line ≡ none → right_form line ≡ true
  unfolding line_fault
  form-right e = (passed (right_form line) wrong_line _ (omega arith) e).0

  pub all-taken : line_fault line ≡ none → bytes_taken line ≡ bytes_in line
  all-taken e = by_form ∙ ap (λ (b : Bool). cond b (bytes_in line) []) (form-right e)

  -- and the body stands in front of the last of them
  pub body-taken : {after : List ℕ} {n : ℕ} → line_fault line ≡ none → Takes (bytes_taken line) after n
      → take (n - 1) after ≡ message_of (bytes_in line)
  body-taken {after} {n} e t =
      let all = all-taken e in
      sym (take-take (n - 1) n after (omega arith))
      ∙ ap₂ (λ (k : ℕ) (bytes : List ℕ). take (k - 1) bytes) (t.handed ∙ ap length all) (t.stand ∙ all)
