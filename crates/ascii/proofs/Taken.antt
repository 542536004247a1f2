-- What is taken of a line, step by step.
-- Assumes nothing.
use Rattle.std.proofs.Common.{◌≡◌, ℕ, suc, ◌+◌, ◌-◌, ◌*◌, ◌/◌, ◌%◌, ◌<◌, ◌≤◌, Bool, true, false, ◌&&◌, eqb, leb, List, [], ◌∷◌, length, get_or, take, drop, set, sym, refl, ap, ◌∙◌, subst, ap₂, add-one, arith, length-drop, length-take, drop-cons, ne_eqb, eqb-true, le-leb, leb-true}
use borrow.Author.Tests.{lt-leb}
use lib.Seq.{sets}
use Rattle.numbers.proofs.Tests.{contrary, both}
use Rattle.crc.proofs.Framed.{last-two}
use Rattle.ascii.specs.Hexadecimal.{is_hex, all_hex, half_of, bytes_of}
use Rattle.ascii.specs.Line.{CR, LF, dropped, behind_colon, ends_in_cr_lf, before_cr_lf, fewest, most, right_number, make_bytes}
use Rattle.ascii.specs.Promise.{bytes_made, bytes_behind, bytes_taken, Takes}
use Rattle.ascii.proofs.Hexadecimal.{bytes-length}
use Rattle.ascii.proofs.Stores.{front_read, sets-none}

-- ---- characters that make bytes

-- what their number is, and that all are hexadecimal
pub record Made (characters : List ℕ) : Type 0 where
  pub even : length characters % 2 ≡ 0
  pub least : fewest ≤ length characters / 2
  pub not_more : length characters / 2 ≤ most
  pub hex : all_hex characters ≡ true

pub are-made : (characters : List ℕ) → make_bytes characters ≡ true → Made characters
unfolding make_bytes
are-made characters e =
    let n = length characters in
    let all = both (right_number n) (all_hex characters) e in
    let number = both (eqb (n % 2) 0 && leb fewest (n / 2)) (leb (n / 2) most) all.0 in
    let lower = both (eqb (n % 2) 0) (leb fewest (n / 2)) number.0 in
    record {
      even = eqb-true (n % 2) 0 lower.0;
      least = leb-true fewest (n / 2) lower.1;
      not_more = leb-true (n / 2) most number.1;
      hex = all.1;
    }

-- ---- one byte more

-- the bytes that are left, behind those that were stored
abbrev pub bytes_left : List ℕ → List ℕ → ℕ → List ℕ
bytes_left characters stored k = sets stored k (bytes_of (drop (2 * k) characters))

module _ (characters : List ℕ) (i : ℕ) (inside : i < length characters / 2) where
  -- the two characters of the next byte
  next_two : drop (2 * i) characters ≡ get_or characters (2 * i) 0 ∷ get_or characters (2 * i + 1) 0 ∷ drop (2 * (i + 1)) characters
  next_two =
      let high = get_or characters (2 * i) 0 in
      let next : suc (suc (2 * i)) ≡ 2 * (i + 1) = omega arith in
      let low : suc (2 * i) ≡ 2 * i + 1 = omega arith in
      drop-cons characters (2 * i) 0 (omega arith)
      ∙ ap (λ (xs : List ℕ). high ∷ xs) (drop-cons characters (suc (2 * i)) 0 (omega arith))
      ∙ ap₂ (λ (j k : ℕ). high ∷ get_or characters j 0 ∷ drop k characters) low next

  -- where both are hexadecimal, those behind them decide
  pub hex-turn : is_hex (get_or characters (2 * i) 0) ≡ true → is_hex (get_or characters (2 * i + 1) 0) ≡ true
      → all_hex (drop (2 * i) characters) ≡ all_hex (drop (2 * (i + 1)) characters)
  hex-turn high low = ap all_hex next_two ∙ rw (high, low)

module _ (characters bytes : List ℕ) (i : ℕ) where
  pub bytes-turn : (v : ℕ) → i < length characters / 2
      → v ≡ 16 * half_of (get_or characters (2 * i) 0) + half_of (get_or characters (2 * i + 1) 0)
      → bytes_left characters bytes i ≡ bytes_left characters (set bytes i v) (i + 1)
  unfolding bytes_of
  bytes-turn v h e =
      ap (λ (xs : List ℕ). sets bytes i (bytes_of xs)) (next_two characters i h)
      ∙ ap₂ (λ (x k : ℕ). sets (set bytes i x) k (bytes_of (drop (2 * (i + 1)) characters))) (sym e) (sym (add-one i))

  pub bytes-end : length characters / 2 ≤ i → bytes_left characters bytes i ≡ bytes
  bytes-end h =
      let left = drop (2 * i) characters in
      sets-none (bytes_of left) bytes i (omega (arith, bytes-length left, length-drop (2 * i) characters))

-- ---- CR and LF

-- what is too short for both does not end in them: one character is not CR and LF at once
pub too_short : (rest : List ℕ) → length rest < 2 → ends_in_cr_lf rest ≡ false
unfolding ends_in_cr_lf
too_short [] h = refl
too_short (c ∷ []) h = by (eqb c CR) refl
  where
    by : (b : Bool) → eqb c CR ≡ b → (b && eqb c LF) ≡ false
    by true e = ne_eqb c LF (λ l. omega (arith, eqb-true c CR e))
    by false e = refl
too_short (c ∷ d ∷ rest) h = absurd (omega arith)

-- the last two decide
pub two_decide : (rest end : List ℕ) → 2 ≤ length rest → end ≡ drop (length rest - 2) rest
    → (eqb (get_or end 0 0) CR && eqb (get_or end 1 0) LF) ≡ ends_in_cr_lf rest
unfolding ends_in_cr_lf
two_decide rest end h e = rw (e, last-two rest h) refl

pub long-enough : (rest : List ℕ) → ends_in_cr_lf rest ≡ true → 2 ≤ length rest
long-enough [] e = absurd (contrary (sym e ∙ too_short [] (omega arith)))
long-enough (c ∷ []) e = absurd (contrary (sym e ∙ too_short (c ∷ []) (omega arith)))
long-enough (c ∷ d ∷ rest) e = omega arith

-- ---- what is taken

-- nothing
pub takes_none : {bytes : List ℕ} (after : List ℕ) → bytes ≡ [] → Takes bytes after 0
takes_none after e = record { handed = ap length (sym e); stand = sym e }

-- what is taken lies within the buffer
pub takes-inside : {bytes after : List ℕ} {r : ℕ} → Takes bytes after r → r ≤ length after
takes-inside {after = after} {r} t =
    let short : length (take r after) ≤ length after = simp length-take (omega arith) in
    omega (arith, t.handed, ap length t.stand)

-- these bytes, by another name
pub takes-by : {bytes others after : List ℕ} {r : ℕ} → bytes ≡ others → Takes bytes after r → Takes others after r
takes-by {after = after} {r} e = subst (λ (bs : List ℕ). Takes bs after r) e

module _ (characters : List ℕ) where
  pub none_made : make_bytes characters ≡ false → bytes_made characters ≡ []
  unfolding bytes_made
  none_made e = rw e

  pub takes-made : (before : List ℕ) → most ≤ length before → make_bytes characters ≡ true
      → Takes (bytes_made characters) (sets before 0 (bytes_of characters)) (length characters / 2)
  unfolding bytes_made
  takes-made before room e =
      let m = are-made characters e in
      let few = m.not_more in
      let long : length characters / 2 ≡ length (bytes_of characters) = sym (bytes-length characters) in
      record {
        handed = rw e long;
        stand =
            rw e
            (ap (λ (k : ℕ). take k (sets before 0 (bytes_of characters))) long
            ∙ front_read before (bytes_of characters) (omega arith));
      }

module _ (rest : List ℕ) where
  pub none-behind : ends_in_cr_lf rest ≡ false → bytes_behind rest ≡ []
  unfolding bytes_behind
  none-behind e = rw e

  pub made-behind : ends_in_cr_lf rest ≡ true → bytes_behind rest ≡ bytes_made (before_cr_lf rest)
  unfolding bytes_behind
  made-behind e = rw e

module _ (line : List ℕ) where
  pub none-taken : dropped line ≡ 0 → bytes_taken line ≡ []
  unfolding bytes_taken
  none-taken e = rw (lt-leb 1 (dropped line) (omega arith))

  pub behind-taken : (dropped line ≡ 0 → ⊥) → bytes_taken line ≡ bytes_behind (behind_colon line)
  unfolding bytes_taken
  behind-taken h = rw (le-leb 1 (dropped line) (omega arith))
