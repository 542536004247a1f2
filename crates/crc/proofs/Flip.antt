-- What arrives of a frame has as many bytes as the frame, and they are bytes.
-- Assumes nothing.
use mathlib.Core.Path.{◌≡◌, refl, ap}
use mathlib.Core.List.{List, [], ◌∷◌}
use Prim.Native.Nat.{ℕ, zero, suc}
use lib.Bits.{xor_lt}
use lib.ListN.{length}
use Rattle.crc.specs.Crc.{Bytes}
use Rattle.crc.specs.Damage.{flip}
use Rattle.crc.proofs.Bytes.{rest-bytes}

pub flip-length : (f m : List ℕ) → length (flip f m) ≡ length f
unfolding flip
flip-length [] m = refl
flip-length (b ∷ f) [] = refl
flip-length (b ∷ f) (x ∷ m) = ap suc (flip-length f m)

pub flip-bytes : (f m : List ℕ) → Bytes f → Bytes m → Bytes (flip f m)
unfolding flip
flip-bytes [] m hf hm i = hf i
flip-bytes (b ∷ f) [] hf hm i = hf i
flip-bytes (b ∷ f) (x ∷ m) hf hm zero = xor_lt 8 b x (hf 0) (hm 0)
flip-bytes (b ∷ f) (x ∷ m) hf hm (suc i) = flip-bytes f m (rest-bytes b f hf) (rest-bytes x m hm) i
