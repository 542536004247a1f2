-- The point taken out of a text: what is left are the sign and the digits, so other decimals move the point alone.
-- Assumes nothing.
use mathlib.Core.Path.{◌≡◌, refl, sym, ap, ◌∙◌}
use mathlib.Core.Bool.{Bool, true, false, cond}
use mathlib.Core.List.{List, [], ◌∷◌, ◌++◌}
use Prim.Native.Nat.{ℕ, zero, suc, ◌-◌}
use native.Mathlib.Omega.{arith}
use borrow.Author.Tests.{ne_eqb}
use lib.Dec.{eqb}
use lib.IntN.{pos, nat_abs}
use lib.ListN.{length, take, drop, take-append-drop}
use lib.Signed.{lt_z}
use Rattle.numbers.proofs.Tests.{both}
use Rattle.text.specs.Characters.{point, is_digit}
use Rattle.text.specs.Reading.{all_digits}
use Rattle.text.specs.Writing.{digits, pointed, sign_text, room, text}
use Rattle.text.specs.Demands.{without_point, PointAlone}
use Rattle.text.proofs.Numerals.{digits-all, parts-digits}
use Rattle.text.proofs.RoundTrip.{no-point}

-- it is taken out of each part
out-of-both : (xs ys : List ℕ) → without_point (xs ++ ys) ≡ without_point xs ++ without_point ys
out-of-both [] ys = refl
out-of-both (x ∷ xs) ys = by (eqb x point) (out-of-both xs ys)
  where
    by : (b : Bool) → without_point (xs ++ ys) ≡ without_point xs ++ without_point ys
        → cond b (without_point (xs ++ ys)) (x ∷ without_point (xs ++ ys)) ≡ cond b (without_point xs) (x ∷ without_point xs) ++ without_point ys
    by true e = e
    by false e = ap (λ (l : List ℕ). x ∷ l) e

-- among digits there is none
none-among : (xs : List ℕ) → all_digits xs ≡ true → without_point xs ≡ xs
none-among [] a = refl
none-among (x ∷ xs) a =
    let p = both (is_digit x) (all_digits xs) a in
    rw (ne_eqb x point (no-point x p.0), none-among xs p.1)

-- so of digits with the point in them they are left
module _ (d : ℕ) (ds : List ℕ) (a : all_digits ds ≡ true) where
  digits-left : without_point (pointed (suc d) ds) ≡ ds
  digits-left =
      let j = length ds - suc d in
      let whole = take-append-drop j ds in
      let p = parts-digits (take j ds) (drop j ds) (ap all_digits whole ∙ a) in
      out-of-both (take j ds) (point ∷ drop j ds) ∙ rw (none-among (take j ds) p.0, none-among (drop j ds) p.1) whole

pub point-alone : PointAlone
unfolding text
point-alone width zero e v h k = absurd (omega arith)
point-alone width (suc d) zero v h k = absurd (omega arith)
point-alone width (suc d) (suc e) v h k = left d ∙ sym (left e)
  where
    minus : Bool
    minus = lt_z v (pos 0)

    -- what is left of the text, whatever its decimals are
    left : (d : ℕ) → without_point (text width (suc d) v) ≡ without_point (sign_text minus) ++ digits (room width 1 minus) (nat_abs v)
    left d =
        let ds = digits (room width 1 minus) (nat_abs v) in
        out-of-both (sign_text minus) (pointed (suc d) ds)
        ∙ ap (λ (l : List ℕ). without_point (sign_text minus) ++ l) (digits-left d ds (digits-all (room width 1 minus) (nat_abs v)))
