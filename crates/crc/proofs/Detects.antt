-- What the CRC detects: no mask of these kinds shifts to 0 as a number, so the damage is seen.
-- Assumes nothing.
use mathlib.Core.Path.{◌≡◌, sym, ap, ◌∙◌}
use mathlib.Core.Bool.{false}
use mathlib.Core.Logic.{⊎_elim}
use mathlib.Core.List.{List}
use Prim.Native.Nat.{ℕ, ◌*◌}
use native.Mathlib.Omega.{arith}
use lib.Count.{ones}
use lib.ListN.{length}
use Rattle.crc.specs.Crc.{is_right}
use Rattle.crc.specs.Damage.{Detects, Spoils, Within, flip}
use Rattle.crc.proofs.AsSent.{as_sent, as-sent-small, bit-as-sent, ones-as-sent}
use Rattle.crc.proofs.Unseen.{seen}
use Rattle.crc.proofs.Burst.{burst-keeps}
use Rattle.crc.proofs.Odd.{ones-zero, shifts-odd}

pub detects : Detects
unfolding Within
detects = record {
  burst = λ f m s d. seen f m s (λ lost.
      let none : as_sent m ≡ 0 =
      burst-keeps d.1.0 (8 * length m) (as_sent m) (as-sent-small m s.mask_bytes)
      (λ i one. let q = d.1.1 i (sym (bit-as-sent m s.mask_bytes i) ∙ one) in omega arith) lost in
      omega (arith, ones-as-sent m s.mask_bytes, ap ones none, ones-zero));
  odd = λ f m s d. seen f m s (λ lost.
      omega (arith, ones-as-sent m s.mask_bytes, shifts-odd (8 * length m) (as_sent m), ap ones lost, ones-zero));
}

-- the same for damage of either kind: what callers cite
pub damaged-not-right : (f m : List ℕ) → Spoils f m → is_right (flip f m) ≡ false
damaged-not-right f m s = ⊎_elim (detects.burst f m s.sent) (detects.odd f m s.sent) s.damage
