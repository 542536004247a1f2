-- What is part of some bytes is bytes, and so are they with one byte more, and the two of a 16-bit number.
-- Assumes nothing.
use mathlib.Core.List.{List, [], ◌∷◌, ◌++◌}
use Prim.Native.Nat.{ℕ, zero, suc, ◌^◌, ◌<◌}
use native.Mathlib.Omega.{arith}
use lib.ListN.{take}
use Rattle.crc.specs.Crc.{Bytes, low_first}

pub rest-bytes : (b : ℕ) (bytes : List ℕ) → Bytes (b ∷ bytes) → Bytes bytes
rest-bytes b bytes h i = h (suc i)

pub take-bytes : (n : ℕ) (bytes : List ℕ) → Bytes bytes → Bytes (take n bytes)
take-bytes zero bytes h i = omega arith
take-bytes (suc n) [] h i = h i
take-bytes (suc n) (b ∷ bytes) h zero = h 0
take-bytes (suc n) (b ∷ bytes) h (suc i) = take-bytes n bytes (rest-bytes b bytes h) i

pub one_more : (bytes : List ℕ) (b : ℕ) → Bytes bytes → b < 256 → Bytes (bytes ++ (b ∷ []))
one_more [] b h small zero = small
one_more [] b h small (suc i) = omega arith
one_more (c ∷ bytes) b h small zero = h 0
one_more (c ∷ bytes) b h small (suc i) = one_more bytes b (rest-bytes c bytes h) small i

pub low-first-bytes : (n : ℕ) → n < 2 ^ 16 → Bytes (low_first n)
low-first-bytes n h zero = omega arith
low-first-bytes n h (suc zero) = omega arith
low-first-bytes n h (suc (suc i)) = omega arith
