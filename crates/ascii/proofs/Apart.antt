-- A line that is made of a body is taken apart into that body, and a line without a fault is made again of its body.
-- Assumes nothing.
use Rattle.std.proofs.Common.{◌≡◌, ℕ, suc, ◌+◌, ◌-◌, ◌/◌, ◌%◌, ◌<◌, ◌≤◌, true, ◌&&◌, eqb, leb, List, [], ◌∷◌, ◌++◌, length, get_or, take, drop, sym, refl, ap, ◌∙◌, ap₂, ⊎_elim, arith, length-append, take-append-drop, drop-cons, take-suc, take_at, get_or-append-add, eq-eqb, eqb-true, le-leb, leb-true}
use lib.Seq.{get_or_at, take-length}
use Rattle.numbers.specs.Numbers.{none}
use Rattle.numbers.proofs.Tests.{both}
use Rattle.numbers.proofs.Order.{passed}
use Rattle.crc.specs.Crc.{Bytes}
use Rattle.crc.proofs.Bytes.{one_more}
use Rattle.crc.proofs.Framed.{last-two}
use Rattle.ascii.specs.Hexadecimal.{hex_of, all_hex, bytes_of}
use Rattle.ascii.specs.Line.{wrong_line, wrong_lrc, colon, CR, LF, lrc_of, line_of, dropped, behind_colon, ends_in_cr_lf, before_cr_lf}
use Rattle.ascii.specs.Line.{fewest, most, make_bytes, right_form, bytes_in, message_of, lrc_in, right_lrc, line_fault}
use Rattle.ascii.specs.Claims.{Body}
use Rattle.ascii.proofs.Hexadecimal.{hex-range, hex-at, all-hex, bytes_back, hex-again}
use Rattle.ascii.proofs.Colon.{dropped-short, colon-there, dropped-first, none_dropped}
use Rattle.ascii.proofs.Taken.{are-made, long-enough}
use Rattle.ascii.proofs.Faults.{sent-body, sent-last, form-right, right-number}
use Rattle.ascii.proofs.Written.{digits-length}

-- CR and LF, which stand at the end
abbrev ends : List ℕ
ends = CR ∷ LF ∷ []

-- ---- hexadecimal characters between a colon and CR LF

module _ (digits : List ℕ) (hex : all_hex digits ≡ true) where
  -- none of them is a colon
  not-colon : (i : ℕ) → i < length digits → get_or digits i 0 ≡ colon → ⊥
  not-colon i h e =
      ⊎_elim (λ r. omega (arith, r.1)) (λ r. omega (arith, r.0)) (hex-range (get_or digits i 0) (hex-at digits i hex h))

  -- so the colon in front of them is the last
  first-colon : dropped (colon ∷ digits ++ ends) ≡ 1
  unfolding dropped
  first-colon = dropped-first (digits ++ ends) (none_dropped digits ends not-colon refl)

  behind-first : behind_colon (colon ∷ digits ++ ends) ≡ digits ++ ends
  behind-first = ap (λ (k : ℕ). drop k (colon ∷ digits ++ ends)) first-colon

  -- they stand in front of CR LF
  long : length digits ≡ length (digits ++ ends) - 2
  long = omega (arith, length-append digits ends)

  ends_there : ends_in_cr_lf (digits ++ ends) ≡ true
  unfolding ends_in_cr_lf
  ends_there =
      let rest = digits ++ ends in
      let last : length rest - 1 ≡ length digits + 1 = omega (arith, length-append digits ends) in
      let low : get_or rest (length rest - 1) 0 ≡ LF =
      ap (λ (k : ℕ). get_or rest k 0) last ∙ get_or-append-add digits ends 1 0 in
      rw (get_or_at digits CR (LF ∷ []) 0 (length rest - 2) long, low)

  between : before_cr_lf (behind_colon (colon ∷ digits ++ ends)) ≡ digits
  between = ap before_cr_lf behind-first ∙ take_at digits ends (length (digits ++ ends) - 2) long

  form_of : make_bytes digits ≡ true → right_form (colon ∷ digits ++ ends) ≡ true
  unfolding right_form
  form_of made =
      let line = colon ∷ digits ++ ends in
      ap₂ ◌&&◌ (ap₂ ◌&&◌ (le-leb 1 (dropped line) (omega (arith, first-colon))) (ap ends_in_cr_lf behind-first ∙ ends_there))
      (ap make_bytes between ∙ made)

-- ---- the line of a body

module _ (body : List ℕ) (b : Body body) where
  abbrev sent : List ℕ
  sent = body ++ (lrc_of body ∷ [])

  lrc-byte : lrc_of body < 256
  unfolding lrc_of
  lrc-byte = omega arith

  sent-bytes : Bytes sent
  sent-bytes = one_more body (lrc_of body) b.bytes lrc-byte

  sent-made : make_bytes (hex_of sent) ≡ true
  unfolding make_bytes
  sent-made =
      let n = length (hex_of sent) in
      let two = digits-length body (lrc_of body) in
      let low = b.least in
      let high = b.not_more in
      ap₂ ◌&&◌
      (ap₂ ◌&&◌ (ap₂ ◌&&◌ (eq-eqb (n % 2) 0 (omega arith)) (le-leb fewest (n / 2) (omega arith)))
      (le-leb (n / 2) most (omega arith)))
      (all-hex sent sent-bytes)

  line-bytes : bytes_in (line_of body) ≡ sent
  unfolding bytes_in line_of
  line-bytes = ap bytes_of (between (hex_of sent) (all-hex sent sent-bytes)) ∙ bytes_back sent sent-bytes

  line-form : right_form (line_of body) ≡ true
  unfolding line_of
  line-form = form_of (hex_of sent) (all-hex sent sent-bytes) sent-made

  -- the body is all but the last byte, which is the LRC
  sent-right : right_lrc sent ≡ true
  sent-right =
      eq-eqb (lrc_of (message_of sent)) (lrc_in sent) (ap lrc_of (sent-body body (lrc_of body)) ∙ sym (sent-last body (lrc_of body)))

  pub line-body : message_of (bytes_in (line_of body)) ≡ body
  line-body = ap message_of line-bytes ∙ sent-body body (lrc_of body)

  pub line-no-fault : line_fault (line_of body) ≡ none
  unfolding line_fault
  line-no-fault = rw (line-form, line-bytes, sent-right)

-- ---- a line without a fault

-- what ends in CR LF
end-again : (rest : List ℕ) → ends_in_cr_lf rest ≡ true → rest ≡ before_cr_lf rest ++ ends
unfolding ends_in_cr_lf
end-again rest e =
    let n = length rest in
    let parts = both (eqb (get_or rest (n - 2) 0) CR) (eqb (get_or rest (n - 1) 0) LF) e in
    sym (take-append-drop (n - 2) rest)
    ∙ ap (λ (xs : List ℕ). before_cr_lf rest ++ xs)
    (last-two rest (long-enough rest e)
    ∙ ap₂ (λ (x y : ℕ). x ∷ y ∷ []) (eqb-true (get_or rest (n - 2) 0) CR parts.0) (eqb-true (get_or rest (n - 1) 0) LF parts.1))

-- bytes of which the last is the LRC of the others
bytes-again : (bytes : List ℕ) → 1 ≤ length bytes → right_lrc bytes ≡ true → bytes ≡ message_of bytes ++ (lrc_of (message_of bytes) ∷ [])
bytes-again bytes h e =
    let n = length bytes in
    let back : suc (n - 1) ≡ n = omega arith in
    sym (take-length bytes)
    ∙ ap (λ (k : ℕ). take k bytes) (sym back)
    ∙ take-suc bytes (n - 1) 0 (omega arith)
    ∙ ap (λ (x : ℕ). message_of bytes ++ (x ∷ [])) (sym (eqb-true (lrc_of (message_of bytes)) (lrc_in bytes) e))

pub line-again : (line : List ℕ) → line_fault line ≡ none → drop (dropped line - 1) line ≡ line_of (message_of (bytes_in line))
unfolding line_fault right_form bytes_in line_of
line-again line e =
    let rest = behind_colon line in
    let characters = before_cr_lf rest in
    let bytes = bytes_in line in
    let form = form-right line e in
    let parts = both (leb 1 (dropped line) && ends_in_cr_lf rest) (make_bytes characters) form in
    let front = both (leb 1 (dropped line)) (ends_in_cr_lf rest) parts.0 in
    let some = leb-true 1 (dropped line) front.0 in
    let made = are-made characters parts.1 in
    let lrc = (passed (right_lrc bytes) wrong_lrc _ (omega arith) (passed (right_form line) wrong_line _ (omega arith) e).1).0 in
    let back : suc (dropped line - 1) ≡ dropped line = omega arith in
    drop-cons line (dropped line - 1) 0 (omega (arith, dropped-short line))
    ∙ ap₂ (λ (c k : ℕ). c ∷ drop k line) (colon-there line some) back
    ∙ ap (λ (xs : List ℕ). colon ∷ xs) (end-again rest front.1)
    ∙ ap (λ (xs : List ℕ). colon ∷ xs ++ ends)
    (sym (hex-again characters made.hex made.even)
    ∙ ap hex_of (bytes-again bytes (omega (arith, (right-number line form).0)) lrc))
