-- What is claimed of lines of Modbus ASCII, and demand 1 on this line.
-- Assumes nothing.
use Rattle.std.proofs.Common.{◌≡◌, ℕ, ◌≤◌, Bool, true, ◌&&◌, List, [], ◌∷◌, ◌++◌, length, ℤ, sym, ap, ◌∙◌, ap₂, arith, le-leb}
use Rattle.numbers.specs.Numbers.{none, unless, first_met}
use Rattle.crc.specs.Crc.{framed}
use Rattle.modbus.specs.declared.Answered.{Answered}
use Rattle.modbus.specs.Outcome.{Outcome}
use Rattle.modbus.specs.Promise.{Gives}
use Rattle.modbus.proofs.Acting.{gives-by}
use Rattle.table.specs.Table.{good_table}
use Rattle.call.specs.Call.{Call, sending, answered_as}
use Rattle.call.specs.Demands.{OfCall}
use Rattle.call.proofs.Answered.{as-sent, reply-bound}
use Rattle.call.proofs.Demands.{call-good, demand-1-call}
use Rattle.rtu.specs.Frame as rtu
use Rattle.ascii.specs.Hexadecimal.{bytes_of}
use Rattle.ascii.specs.Line.{wrong_line, wrong_lrc, line_of, dropped, ends_in_cr_lf, before_cr_lf, make_bytes}
use Rattle.ascii.specs.Line.{right_form, bytes_in, message_of, right_lrc, line_fault, acted_on}
use Rattle.ascii.specs.Claims.{Body, SameOutcome, OfLines}
use Rattle.ascii.proofs.Colon.{dropped-front, behind-front}
use Rattle.ascii.proofs.Written.{line-length}
use Rattle.ascii.proofs.Frames.{message, by-frame}
use Rattle.ascii.proofs.Answers.{as_call}
use Rattle.ascii.proofs.Apart.{line-body, line-no-fault, line-again}

-- ---- demand 1

-- every call that gives the outcome of a line meets demand 1
pub demand-1-line : (call : Call) (line : List ℕ) {r : Answered} {after : List ℕ} {left : List ℤ}
    → Gives (acted_on call line) r call.buffer after left → OfCall call r after left
demand-1-line call line g = demand-1-call line_of call (line_fault line) (message_of (bytes_in line)) (gives-by (as_call call line) g)

-- a good table stays good
pub line-good : (call : Call) (line : List ℕ) → good_table call.table ≡ true → good_table (acted_on call line).table ≡ true
unfolding acted_on
line-good call line = call-good line_of call (line_fault line) (message_of (bytes_in line))

-- a reply has at most 255 characters
pub line-reply-short : (call : Call) (line : List ℕ) → length (acted_on call line).reply ≤ 255
unfolding acted_on
line-reply-short call line =
    reply-bound line_of 255 (λ body h. omega (arith, line-length body)) call (line_fault line) (message_of (bytes_in line))

-- ---- a colon starts afresh

module _ (before line : List ℕ) (h : 1 ≤ dropped line) where
  same_bytes : bytes_in (before ++ line) ≡ bytes_in line
  unfolding bytes_in
  same_bytes = ap (λ (rest : List ℕ). bytes_of (before_cr_lf rest)) (behind-front before line h)

  same-form : right_form (before ++ line) ≡ right_form line
  unfolding right_form
  same-form =
      ap₂ (λ (b : Bool) (rest : List ℕ). b && ends_in_cr_lf rest && make_bytes (before_cr_lf rest))
      (le-leb 1 (dropped (before ++ line)) (omega (arith, dropped-front before line h)) ∙ sym (le-leb 1 (dropped line) h))
      (behind-front before line h)

  same-fault : line_fault (before ++ line) ≡ line_fault line
  unfolding line_fault
  same-fault =
      ap₂ (λ (form : Bool) (bytes : List ℕ). first_met (unless form wrong_line ∷ unless (right_lrc bytes) wrong_lrc ∷ [])) same-form same_bytes

  starts-afresh : (call : Call) → acted_on call (before ++ line) ≡ acted_on call line
  unfolding acted_on
  starts-afresh call =
      ap₂ (λ (fault : ℕ) (bytes : List ℕ). answered_as line_of call fault (message_of bytes)) same-fault same_bytes

-- ---- both modes

module _ (call : Call) (body : List ℕ) (b : Body body) where
  by-line : acted_on call (line_of body) ≡ sending line_of (message call body)
  by-line =
      as_call call (line_of body)
      ∙ ap₂ (answered_as line_of call) (line-no-fault body b) (line-body body b)
      ∙ as-sent line_of call none body

  same_outcome : SameOutcome (rtu.acted_on call (framed body)) (acted_on call (line_of body))
  same_outcome =
      let frame = by-frame call body b.least b.not_more in
      record {
        number = ap (λ (o : Outcome). o.number) by-line ∙ sym (ap (λ (o : Outcome). o.number) frame);
        table = ap (λ (o : Outcome). o.table) by-line ∙ sym (ap (λ (o : Outcome). o.table) frame);
        reply =
            ((message call body).reply, ap (λ (o : Outcome). o.reply) frame, ap (λ (o : Outcome). o.reply) by-line);
      }

-- ---- all that is claimed

pub lines-claimed : OfLines
lines-claimed =
    record {
      taken_apart = λ body b. (line-no-fault body b, line-body body b);
      made_again = line-again;
      afresh = λ call before line h. starts-afresh before line h call;
      both_modes = same_outcome;
      reply_fits = λ call line. omega (arith, line-reply-short call line);
    }
