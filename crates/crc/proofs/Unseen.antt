-- Damage goes unseen only where its mask, as a number, shifts to 0: the frames as sent and as arrived both do, and so does their
-- exclusive or.
-- Assumes nothing.
use mathlib.Core.Path.{◌≡◌, refl, sym, ap, ap₂, ◌∙◌}
use mathlib.Core.Bool.{Bool, true, false}
use mathlib.Core.List.{List}
use Prim.Native.Nat.{ℕ, ◌*◌}
use lib.Bits.{bit_xor}
use lib.ListN.{length}
use Rattle.crc.specs.Crc.{Bytes, start, shifts, crc16_of, is_right}
use Rattle.crc.specs.Damage.{flip, Sent}
use Rattle.crc.proofs.Xor.{xor_assoc}
use Rattle.crc.proofs.Shifts.{shifts-xor}
use Rattle.crc.proofs.AsSent.{as_sent, crc-as-sent, flip-as-sent}
use Rattle.crc.proofs.Flip.{flip-bytes, flip-length}
use Rattle.crc.proofs.Framed.{right_zero}

-- a right frame with the start taken in shifts to 0
right-shifts : (f : List ℕ) → Bytes f → is_right f ≡ true → shifts (8 * length f) (bit_xor start (as_sent f)) ≡ 0
unfolding crc16_of
right-shifts f h e = sym (crc-as-sent start f h) ∙ right_zero f h e

unseen : (f m : List ℕ) → Sent f m → is_right (flip f m) ≡ true → shifts (8 * length m) (as_sent m) ≡ 0
unseen f m s still =
    let n = 8 * length f in
    let both = flip-as-sent f m s.frame_bytes s.mask_bytes s.same_length in
    let sent : shifts n (bit_xor start (as_sent f)) ≡ 0 = right-shifts f s.frame_bytes s.right in
    let arrived : shifts n (bit_xor start (bit_xor (as_sent f) (as_sent m))) ≡ 0 =
    ap₂ (λ (k x : ℕ). shifts (8 * k) (bit_xor start x)) (sym (flip-length f m)) (sym both)
    ∙ right-shifts (flip f m) (flip-bytes f m s.frame_bytes s.mask_bytes) still in
    ap (λ (k : ℕ). shifts (8 * k) (as_sent m)) s.same_length ∙ ap (λ (x : ℕ). bit_xor x (shifts n (as_sent m))) (sym sent)
    ∙ sym (shifts-xor n (bit_xor start (as_sent f)) (as_sent m)) ∙ ap (shifts n) (xor_assoc start (as_sent f) (as_sent m)) ∙ arrived

-- damage whose mask does not shift to 0 is seen
pub seen : (f m : List ℕ) → Sent f m → (shifts (8 * length m) (as_sent m) ≡ 0 → ⊥) → is_right (flip f m) ≡ false
seen f m s never = go (is_right (flip f m)) refl
  where
    go : (b : Bool) → is_right (flip f m) ≡ b → b ≡ false
    go true e = absurd (never (unseen f m s e))
    go false e = refl
