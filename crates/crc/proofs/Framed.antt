-- A frame is right exactly where it is the frame of its body, and the CRC of a right frame, its own CRC taken in too, is 0.
-- Assumes nothing.
use mathlib.Core.Path.{◌≡◌, refl, sym, ap, ap₂, ◌∙◌}
use mathlib.Core.Bool.{true, ◌&&◌}
use mathlib.Core.List.{List, [], ◌∷◌, ◌++◌}
use Prim.Native.Nat.{ℕ, suc, ◌+◌, ◌-◌, ◌*◌, ◌/◌, ◌%◌, ◌^◌, ◌≤◌, ◌<◌}
use native.Mathlib.Omega.{arith}
use borrow.Author.Tests.{le-leb, leb-true, eqb-true, eq-eqb}
use lib.Bits.{bit_xor, xor_lt, xor_self}
use lib.Dec.{eqb, leb, lit<}
use lib.ListN.{length, get_or, take, drop, length-append, take-append-drop}
use lib.Seq.{drop-cons, drop-length, take_at, get_or_at, get_or-append-add, take-append_seam}
use Rattle.numbers.proofs.Tests.{both}
use Rattle.crc.specs.Crc.{Bytes, start, shifts, crc_from, crc16_of, low_first, framed, body_of, crc_in, is_right}
use Rattle.crc.proofs.Bytes.{low-first-bytes, rest-bytes, take-bytes}
use Rattle.crc.proofs.Shifts.{shifts-small, shifts-zero}
use Rattle.crc.proofs.AsSent.{as_sent, crc-as-sent}

from-small : (crc : ℕ) (bytes : List ℕ) → crc < 2 ^ 16 → Bytes bytes → crc_from crc bytes < 2 ^ 16
unfolding crc_from
from-small crc [] h hb = h
from-small crc (b ∷ bytes) h hb =
    let low : b < 256 = hb 0 in
    from-small (shifts 8 (bit_xor crc b)) bytes (shifts-small 8 (bit_xor crc b) (xor_lt 16 crc b h (omega arith))) (rest-bytes b bytes hb)

-- a CRC is a number of 16 bits
pub crc-small : (bytes : List ℕ) → Bytes bytes → crc16_of bytes < 2 ^ 16
unfolding crc16_of
crc-small bytes h = from-small start bytes (lit< tt) h

pub length-framed : (body : List ℕ) → length (framed body) ≡ length body + 2
unfolding framed
length-framed body = length-append body (low_first (crc16_of body))

-- its body stands at its front
pub take-framed : (body : List ℕ) → take (length body) (framed body) ≡ body
unfolding framed
take-framed body = take-append_seam body (low_first (crc16_of body))

-- the frame of a body is right
pub framed-right : (body : List ℕ) → is_right (framed body) ≡ true
unfolding framed is_right
framed-right body =
    let crc = crc16_of body in
    let f = body ++ low_first crc in
    let n : length f ≡ length body + 2 = length-append body (low_first crc) in
    let e : length body ≡ length f - 2 = omega arith in
    let e₁ : length f - 1 ≡ length body + 1 = omega arith in
    let low : get_or f (length f - 2) 0 ≡ crc % 256 = get_or_at body (crc % 256) (crc / 256 ∷ []) 0 (length f - 2) e in
    let high : get_or f (length f - 1) 0 ≡ crc / 256 = ap (λ (k : ℕ). get_or f k 0) e₁ ∙ get_or-append-add body (low_first crc) 1 0 in
    ap₂ ◌&&◌ (le-leb 2 (length f) (omega arith))
    (eq-eqb (crc16_of (body_of f)) (crc_in f) (ap crc16_of (take_at body (low_first crc) (length f - 2) e) ∙ omega arith))

-- what a right frame has met
right-parts : (f : List ℕ) → is_right f ≡ true → (2 ≤ length f) × (crc16_of (body_of f) ≡ crc_in f)
unfolding is_right
right-parts f e =
    let q = both (leb 2 (length f)) (eqb (crc16_of (body_of f)) (crc_in f)) e in
    (leb-true 2 (length f) q.0, eqb-true (crc16_of (body_of f)) (crc_in f) q.1)

pub last-two : (f : List ℕ) → 2 ≤ length f → drop (length f - 2) f ≡ get_or f (length f - 2) 0 ∷ get_or f (length f - 1) 0 ∷ []
last-two f h =
    let e : suc (length f - 2) ≡ length f - 1 = omega arith in
    let e₁ : suc (length f - 1) ≡ length f = omega arith in
    drop-cons f (length f - 2) 0 (omega arith)
    ∙ ap (λ (t : List ℕ). get_or f (length f - 2) 0 ∷ t)
    (ap (λ (n : ℕ). drop n f) e ∙ drop-cons f (length f - 1) 0 (omega arith)
    ∙ ap (λ (t : List ℕ). get_or f (length f - 1) 0 ∷ t) (ap (λ (n : ℕ). drop n f) e₁ ∙ drop-length f))

word_bytes : (low high : ℕ) → low < 256 → high < 256 → low ∷ high ∷ [] ≡ low_first (low + 256 * high)
word_bytes low high hl hh =
    let l : low ≡ (low + 256 * high) % 256 = omega arith in
    let h : high ≡ (low + 256 * high) / 256 = omega arith in
    ap₂ (λ (x y : ℕ). x ∷ y ∷ []) l h

-- a right frame is the frame of its body
pub right-framed : (f : List ℕ) → Bytes f → is_right f ≡ true → f ≡ framed (body_of f)
unfolding framed
right-framed f h e =
    let q = right-parts f e in
    sym (take-append-drop (length f - 2) f)
    ∙ ap (λ (t : List ℕ). body_of f ++ t)
    (last-two f q.0 ∙ word_bytes _ _ (h (length f - 2)) (h (length f - 1)) ∙ ap low_first (sym q.1))

crc-append : (crc : ℕ) (s t : List ℕ) → crc_from crc (s ++ t) ≡ crc_from (crc_from crc s) t
unfolding crc_from
crc-append crc [] t = refl
crc-append crc (b ∷ s) t = crc-append (shifts 8 (bit_xor crc b)) s t

-- a register that takes in its own two bytes, the low one first, comes to 0
own-crc : (crc : ℕ) → crc < 2 ^ 16 → crc_from crc (low_first crc) ≡ 0
unfolding as_sent
own-crc crc h =
    let e : as_sent (low_first crc) ≡ crc = omega arith in
    crc-as-sent crc (low_first crc) (low-first-bytes crc h) ∙ ap (λ (n : ℕ). shifts 16 (bit_xor crc n)) e
    ∙ ap (shifts 16) (xor_self crc) ∙ shifts-zero 16

pub right_zero : (f : List ℕ) → Bytes f → is_right f ≡ true → crc16_of f ≡ 0
unfolding crc16_of framed
right_zero f h e =
    let body = body_of f in
    ap (crc_from start) (right-framed f h e) ∙ crc-append start body (low_first (crc16_of body))
    ∙ own-crc (crc16_of body) (crc-small body (take-bytes (length f - 2) f h))
