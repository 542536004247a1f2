-- The numbers that bytes make are small, and a part of a list between two places that are cut off at its end.
-- Assumes nothing.
use mathlib.Core.Path.{◌≡◌, sym, ap, ◌∙◌}
use mathlib.Core.List.{List}
use Prim.Native.Nat.{ℕ, ◌+◌, ◌-◌, ◌<◌}
use native.Mathlib.Omega.{arith}
use lib.ListN.{length, get_or, take, drop, length-append, take-append-drop}
use lib.Seq.{take-append_seam, drop-append_seam, take-add}
use mir.Syntax.{w8}
use mir.Val.{Fits}
use Rattle.capture.specs.Format.{two_at, size}

-- ---- numbers of two bytes

module _ (c : List ℕ) (bytes : (i : ℕ) → Fits w8 (get_or c i 0)) where
  pub two_small : (i : ℕ) → two_at c i < 0x10000
  two_small i = omega (arith, bytes i, bytes (i + 1))

  pub size_small : (end : ℕ) → size c end < 0x10000
  unfolding size
  size_small end = two_small (end - 2)

-- ---- parts

module _ (c : List ℕ) (n : ℕ) where
  -- as many as a front has are that front, and behind them is what is behind it
  pub front_cut : take (length (take n c)) c ≡ take n c
  front_cut = ap (take (length (take n c))) (sym (take-append-drop n c)) ∙ take-append_seam (take n c) (drop n c)

  pub rest-cut : drop (length (take n c)) c ≡ drop n c
  rest-cut = ap (drop (length (take n c))) (sym (take-append-drop n c)) ∙ drop-append_seam (take n c) (drop n c)

module _ (c : List ℕ) (from n : ℕ) where
  -- n more from a place on reach as far behind that place as their part is long
  pub cut-further : length (take (from + n) c) ≡ length (take from c) + length (take n (drop from c))
  cut-further = ap length (take-add from n c) ∙ length-append (take from c) (take n (drop from c))

  -- so the part between the two places, both cut off at the end, is the part of n
  pub part_cut : take (length (take (from + n) c) - length (take from c)) (drop (length (take from c)) c) ≡ take n (drop from c)
  part_cut =
      let long : length (take (from + n) c) - length (take from c) ≡ length (take n (drop from c)) = omega (arith, cut-further) in
      rw (long, rest-cut c from) (front_cut (drop from c) n)
