-- What callers use of sealing: what it comes to with room for the CRC and without it, that the buffer then starts with a right
-- frame, and that it stays as long as it was.
-- Assumes nothing.
use mathlib.Core.Path.{◌≡◌, refl, sym, ap, ap₂, ◌∙◌}
use mathlib.Core.Bool.{true}
use mathlib.Core.List.{List, ◌++◌}
use Prim.Native.Nat.{ℕ, ◌+◌, ◌≤◌, ◌<◌}
use native.Mathlib.Nat.{zero-add}
use native.Mathlib.Omega.{arith}
use borrow.Author.Tests.{le-leb, lt-leb, leb-true}
use lib.Dec.{leb}
use lib.ListN.{length, take, drop}
use lib.Seq.{drop-append-add, drop-drop, length_front, length-sets, length-take-le, sets, sets-eq, take-append_seam, take_at}
use Rattle.numbers.proofs.Tests.{chosen}
use Rattle.crc.specs.Crc.{framed, is_right, sealed, sealed_length, Seals}
use Rattle.crc.proofs.Framed.{framed-right, length-framed}

pub with-room : (buffer : List ℕ) (n : ℕ) → n + 2 ≤ length buffer
    → Seals buffer n (framed (take n buffer) ++ drop (n + 2) buffer) (n + 2)
unfolding sealed sealed_length
with-room buffer n room = record {
  buffer = rw (le-leb (n + 2) (length buffer) room);
  handed = rw (le-leb (n + 2) (length buffer) room);
}

pub without-room : (buffer : List ℕ) (n : ℕ) → length buffer < n + 2 → Seals buffer n buffer 0
unfolding sealed sealed_length
without-room buffer n full = record {
  buffer = rw (lt-leb (n + 2) (length buffer) full);
  handed = rw (lt-leb (n + 2) (length buffer) full);
}

-- the frame is two bytes longer
frame-length : (buffer : List ℕ) (n : ℕ) → n + 2 ≤ length buffer → length (framed (take n buffer)) ≡ n + 2
frame-length buffer n room = length-framed (take n buffer) ∙ ap (λ (k : ℕ). k + 2) (length-take-le n buffer (omega arith))

-- the buffer then starts with the frame
pub sealed-frame : (buffer : List ℕ) (n : ℕ) → n + 2 ≤ length buffer → take (n + 2) (sealed buffer n) ≡ framed (take n buffer)
sealed-frame buffer n room =
    ap (take (n + 2)) (sym (with-room buffer n room).buffer)
    ∙ take_at (framed (take n buffer)) (drop (n + 2) buffer) (n + 2) (frame-length buffer n room)

-- which is right
pub sealed-right : (buffer : List ℕ) (n : ℕ) → n + 2 ≤ length buffer → is_right (take (n + 2) (sealed buffer n)) ≡ true
sealed-right buffer n room = ap is_right (sealed-frame buffer n room) ∙ framed-right (take n buffer)

pub sealed-same-length : (buffer : List ℕ) (n : ℕ) → length (sealed buffer n) ≡ length buffer
unfolding sealed
sealed-same-length buffer n =
    chosen (λ (b : List ℕ). length b ≡ length buffer) (leb (n + 2) (length buffer))
    (λ e. let room = leb-true (n + 2) (length buffer) e in
    length_front buffer (framed (take n buffer)) (n + 2) (frame-length buffer n room ∙ sym (length-take-le (n + 2) buffer room)))
    (λ _. refl)

-- a body stored at the front of a buffer
pub front : (buffer body : List ℕ) → length body ≤ length buffer → sets buffer 0 body ≡ body ++ drop (length body) buffer
front buffer body h =
    sets-eq body buffer 0 (omega arith) ∙ ap (λ (k : ℕ). body ++ drop k buffer) (zero-add (length body))

-- Sealing a body that stands at the front of a buffer leaves the body's frame there.
pub sealed-body : (buffer body : List ℕ) → length body + 2 ≤ length buffer
    → sealed (sets buffer 0 body) (length body) ≡ sets buffer 0 (framed body)
sealed-body buffer body room =
    let n = length body in
    let stored = front buffer body (omega arith) in
    let kept : take n (sets buffer 0 body) ≡ body = ap (take n) stored ∙ take-append_seam body (drop n buffer) in
    let rest : drop (n + 2) (sets buffer 0 body) ≡ drop (n + 2) buffer =
    ap (drop (n + 2)) stored ∙ drop-append-add body (drop n buffer) 2 ∙ drop-drop 2 n buffer in
    let len : length (framed body) ≡ n + 2 = length-framed body in
    sym (with-room (sets buffer 0 body) n (omega (arith, length-sets buffer 0 body))).buffer
    ∙ ap₂ (λ (s t : List ℕ). framed s ++ t) kept rest
    ∙ sym (front buffer (framed body) (omega arith) ∙ ap (λ (k : ℕ). framed body ++ drop k buffer) len)
