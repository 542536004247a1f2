-- What a written text is made of: how many digits have room, and how many characters there are.
-- Assumes nothing.
use mathlib.Core.Path.{◌≡◌, refl, sym, ap, ◌∙◌}
use mathlib.Core.Bool.{Bool, true, false}
use mathlib.Core.List.{List, [], ◌∷◌}
use Prim.Native.Nat.{ℕ, zero, suc, ◌+◌, ◌-◌, ◌<◌, ◌≤◌}
use native.Mathlib.Omega.{arith}
use borrow.Author.Tests.{leb-true, le-leb, lt-leb}
use lib.Dec.{leb}
use lib.IntN.{ℤ, pos, nat_abs}
use lib.ListN.{length, set, take, drop, length-append, length-take, length-drop, length-replicate}
use lib.Seq.{set_split}
use lib.Signed.{lt_z}
use Rattle.std.specs.Prelude.{Result, Ok, Err}
use Rattle.numbers.specs.declared.Refusal.{Refusal}
use Rattle.numbers.proofs.Refusals.{same-refusal, refusal-met}
use Rattle.numbers.specs.Numbers.{unless, first_met, unless_met}
use Rattle.text.specs.Characters.{minus_sign, point}
use Rattle.text.specs.Numbers.{least_width, most_decimals, does_not_fit, too_many_decimals}
use Rattle.text.specs.Writing.{digits, pointed, sign_text, points, room, fits, text_of, text, Written, accepted, refusal, write_number, written, written_as}
use Rattle.text.proofs.Numerals.{digits-length, fewer_digits}

-- ---- room

pub one-point : (d : ℕ) → (d ≡ 0 → ⊥) → points d ≡ 1
one-point zero h = absurd (h refl)
one-point (suc d) h = refl

points-few : (d : ℕ) → points d ≤ 1
points-few zero = omega arith
points-few (suc d) = omega arith

pub enough-room : (width d : ℕ) (minus : Bool) → least_width ≤ width → d ≤ most_decimals
    → (d < room width d minus) × (length (sign_text minus) + (room width d minus + points d) ≡ width)
enough-room width d true wide few = let p = points-few d in (omega arith, omega arith)
enough-room width d false wide few = let p = points-few d in (omega arith, omega arith)

-- ---- how many characters

pub pointed-length : (d : ℕ) (ds : List ℕ) → d < length ds → length (pointed d ds) ≡ length ds + points d
pointed-length zero ds h = omega arith
pointed-length (suc d) ds h =
    let j = length ds - suc d in
    let x = length-take j ds in
    let y = length-drop j ds in
    length-append (take j ds) (point ∷ drop j ds) ∙ omega arith

pub text-length : (width d : ℕ) (minus : Bool) (size : ℕ) → least_width ≤ width → d ≤ most_decimals
    → length (text_of width d minus size) ≡ width
text-length width d minus size wide few =
    let ds = digits (room width d minus) size in
    let r = enough-room width d minus wide few in
    let k = digits-length (room width d minus) size in
    let l = pointed-length d ds (omega arith) in
    length-append (sign_text minus) (pointed d ds) ∙ omega arith

-- ---- the minus

-- the point stays before the last d digits where there is one digit less
fewer-pointed : (d : ℕ) (ds : List ℕ) → suc d < length ds → drop 1 (pointed d ds) ≡ pointed d (drop 1 ds)
fewer-pointed zero ds h = refl
fewer-pointed (suc d) [] h = absurd (omega arith)
fewer-pointed (suc d) (x ∷ xs) h =
    let e : suc (length xs) - suc d ≡ suc (length xs - suc d) = omega arith in rw e

-- the text with a minus is the one without, its first character replaced by the minus
pub minus-first : (width d size : ℕ) → d < room width d true
    → set (text_of width d false size) 0 minus_sign ≡ text_of width d true size
minus-first width d size h =
    let k = room width d true in
    let ds = digits (suc k) size in
    let e : room width d false ≡ suc k = omega arith in
    let l = digits-length (suc k) size in
    let m = pointed-length d ds (omega arith) in
    rw e
    (set_split (pointed d ds) 0 minus_sign (omega arith)
    ∙ ap (λ (cs : List ℕ). minus_sign ∷ cs) (fewer-pointed d ds (omega arith) ∙ ap (pointed d) (fewer_digits k size)))

-- ---- whatever was written, refusals too

module _ (width d : ℕ) (v : ℤ) where
  -- what comes of a number
  abbrev outcome : ℕ → Written
  outcome number = unless_met number (refusal width) (accepted (text width d v))

  by-outcome : (P : Written → Type 0) → P (refusal width too_many_decimals) → P (refusal width does_not_fit)
      → (d ≤ most_decimals → P (accepted (text width d v))) → P (written width d v)
  unfolding written write_number
  by-outcome P many none fit = by (leb d most_decimals) (fits width d v) refl
    where
      by : (few fitting : Bool) → leb d most_decimals ≡ few
          → P (outcome (first_met (unless few too_many_decimals ∷ unless fitting does_not_fit ∷ [])))
      by false fitting e = many
      by true false e = none
      by true true e = fit (leb-true d most_decimals e)

  pub written-length : least_width ≤ width → length (written width d v).chars ≡ width
  unfolding text
  written-length wide =
      by-outcome (λ w. length w.chars ≡ width) (length-replicate width 0) (length-replicate width 0)
      (λ few. text-length width d (lt_z v (pos 0)) (nat_abs v) wide few)

  -- each of the three outcomes, by what leads to it
  pub many_decimals : most_decimals < d → written width d v ≡ refusal width too_many_decimals
  unfolding written write_number
  many_decimals many = rw (lt-leb d most_decimals many)

  pub fitting : d ≤ most_decimals → fits width d v ≡ true → written width d v ≡ accepted (text width d v)
  unfolding written write_number
  fitting few f = rw (le-leb d most_decimals few, f)

  pub not-fitting : d ≤ most_decimals → fits width d v ≡ false → written width d v ≡ refusal width does_not_fit
  unfolding written write_number
  not-fitting few f = rw (le-leb d most_decimals few, f)

-- what was written tells the outcome
pub same-written : (width : ℕ) (x y : Result (List ℕ) Refusal) → written_as width x ≡ written_as width y → x ≡ y
same-written width (Ok cs) (Ok ds) e = ap (λ (w : Written). Ok w.chars) e
same-written width (Err r) (Err s) e = ap Err (same-refusal (ap (λ (w : Written). w.number) e))
same-written width (Ok cs) (Err s) e = absurd (refusal-met s (sym (ap (λ (w : Written). w.number) e)))
same-written width (Err r) (Ok ds) e = absurd (refusal-met r (ap (λ (w : Written). w.number) e))
