-- Hexadecimal both ways: what the characters of bytes are, and that they are taken back to the bytes.
-- Assumes nothing.
use Rattle.std.proofs.Common.{◌≡◌, ℕ, zero, suc, ◌+◌, ◌-◌, ◌*◌, ◌/◌, ◌%◌, ◌<◌, ◌≤◌, Bool, true, false, cond, ◌&&◌, ◌||◌, leb, ◌⊎◌, List, [], ◌∷◌, ◌++◌, length, get_or, refl, ap, ◌∙◌, ap₂, inl, inr, ⊎_elim, arith, le-ltb, lt-ltb, le-leb, leb-true}
use borrow.Author.Tests.{lt-leb}
use Rattle.std.specs.Prelude.{Option, Some, None, is_some, unwrap_or}
use Rattle.numbers.proofs.Tests.{both, contrary}
use Rattle.items.proofs.Lists.{passes_at}
use Rattle.crc.specs.Crc.{Bytes}
use Rattle.crc.proofs.Agree.{agree_at}
use Rattle.crc.proofs.Bytes.{rest-bytes}
use Rattle.ascii.specs.Hexadecimal.{zero_digit, nine_digit, first_letter, last_letter, digit_of, hex_of, is_hex, all_hex, half_of, bytes_of}

-- ---- a character

-- a hexadecimal character is a digit or a letter
pub hex-range : (c : ℕ) → is_hex c ≡ true → ((zero_digit ≤ c) × (c ≤ nine_digit)) ⊎ ((first_letter ≤ c) × (c ≤ last_letter))
unfolding is_hex
hex-range c e = by (leb zero_digit c && leb c nine_digit) refl e
  where
    by : (b : Bool) → (leb zero_digit c && leb c nine_digit) ≡ b → (b || (leb first_letter c && leb c last_letter)) ≡ true
        → ((zero_digit ≤ c) × (c ≤ nine_digit)) ⊎ ((first_letter ≤ c) × (c ≤ last_letter))
    by true d h =
        let r = both (leb zero_digit c) (leb c nine_digit) d in
        inl (leb-true zero_digit c r.0, leb-true c nine_digit r.1)
    by false d h =
        let r = both (leb first_letter c) (leb c last_letter) h in
        inr (leb-true first_letter c r.0, leb-true c last_letter r.1)

-- what it stands for is half a byte
half-small : (c : ℕ) → is_hex c ≡ true → half_of c < 16
unfolding half_of
half-small c e =
    ⊎_elim (λ r. let low = r.0 in rw (le-leb c nine_digit r.1) (omega arith))
    (λ r. let high = r.1 in rw (lt-leb c nine_digit (omega arith)) (omega arith))
    (hex-range c e)

-- and where it stands for anything it is hexadecimal
pub record Stands (c half : ℕ) : Type 0 where
  pub hex : is_hex c ≡ true
  pub meant : half ≡ half_of c
  pub small : half < 16

pub stands : (c : ℕ) {half : ℕ} → Some half ≡ cond (is_hex c) (Some (half_of c)) None → Stands c half
stands c {half} e = by (is_hex c) refl e
  where
    by : (b : Bool) → is_hex c ≡ b → Some half ≡ cond b (Some (half_of c)) None → Stands c half
    by true h s =
        let same : half ≡ half_of c = ap (λ (o : Option ℕ). unwrap_or o 0) s in
        record { hex = h; meant = same; small = rw same (half-small c h) }
    by false h s = absurd (contrary (ap is_some s))

-- the character of half a byte is hexadecimal and stands for it: sixteen cases, computed
digit-hex : (half : ℕ) → half < 16 → is_hex (digit_of half) ≡ true
unfolding is_hex digit_of
digit-hex half = passes_at (λ (h : ℕ). is_hex (digit_of h)) 16 half refl

digit-half : (half : ℕ) → half < 16 → half_of (digit_of half) ≡ half
unfolding half_of digit_of
digit-half half h = agree_at (λ (k : ℕ). half_of (digit_of k)) (λ (k : ℕ). k) 16 refl half h

-- and no other hexadecimal character stands for the same half
half-digit : (c : ℕ) → is_hex c ≡ true → digit_of (half_of c) ≡ c
unfolding digit_of half_of
half-digit c e =
    ⊎_elim
    (λ r.
    let low = r.0 in
    rw (le-leb c nine_digit r.1, lt-ltb (c - zero_digit) 10 (omega (arith, r.1))) (omega arith))
    (λ r.
    let low = r.0 in
    rw (lt-leb c nine_digit (omega arith), le-ltb (10 + (c - first_letter)) 10 (omega arith)) (omega arith))
    (hex-range c e)

-- ---- many characters

pub hex-length : (bytes : List ℕ) → length (hex_of bytes) ≡ 2 * length bytes
unfolding hex_of
hex-length [] = refl
hex-length (b ∷ bytes) = let rest = hex-length bytes in omega arith

pub hex-append : (xs ys : List ℕ) → hex_of (xs ++ ys) ≡ hex_of xs ++ hex_of ys
unfolding hex_of
hex-append [] ys = refl
hex-append (x ∷ xs) ys = ap (λ (cs : List ℕ). digit_of (x / 16) ∷ digit_of (x % 16) ∷ cs) (hex-append xs ys)

pub bytes-length : (characters : List ℕ) → length (bytes_of characters) ≡ length characters / 2
unfolding bytes_of
bytes-length [] = refl
bytes-length (c ∷ []) = refl
bytes-length (high ∷ low ∷ characters) = let rest = bytes-length characters in omega arith

-- where all are hexadecimal, each is
pub hex-at : (characters : List ℕ) (i : ℕ) → all_hex characters ≡ true → i < length characters → is_hex (get_or characters i 0) ≡ true
hex-at [] i e h = absurd (omega arith)
hex-at (c ∷ characters) zero e h = (both (is_hex c) (all_hex characters) e).0
hex-at (c ∷ characters) (suc i) e h = hex-at characters i (both (is_hex c) (all_hex characters) e).1 (omega arith)

-- the characters of bytes are hexadecimal, and make these bytes
pub all-hex : (bytes : List ℕ) → Bytes bytes → all_hex (hex_of bytes) ≡ true
unfolding hex_of
all-hex [] h = refl
all-hex (b ∷ bytes) h =
    let small : b < 256 = h 0 in
    rw (digit-hex (b / 16) (omega arith), digit-hex (b % 16) (omega arith)) (all-hex bytes (rest-bytes b bytes h))

pub bytes_back : (bytes : List ℕ) → Bytes bytes → bytes_of (hex_of bytes) ≡ bytes
unfolding hex_of bytes_of
bytes_back [] h = refl
bytes_back (b ∷ bytes) h =
    let small : b < 256 = h 0 in
    let high = digit-half (b / 16) (omega arith) in
    let low = digit-half (b % 16) (omega arith) in
    ap₂ (λ (x : ℕ) (xs : List ℕ). x ∷ xs) (omega arith) (bytes_back bytes (rest-bytes b bytes h))

-- and characters that make bytes are those of these bytes
pub hex-again : (characters : List ℕ) → all_hex characters ≡ true → length characters % 2 ≡ 0 → hex_of (bytes_of characters) ≡ characters
unfolding hex_of bytes_of
hex-again [] e n = refl
hex-again (c ∷ []) e n = absurd (omega arith)
hex-again (c ∷ d ∷ characters) e n =
    let first = both (is_hex c) (is_hex d && all_hex characters) e in
    let second = both (is_hex d) (all_hex characters) first.1 in
    let low = half-small d second.0 in
    let high : (16 * half_of c + half_of d) / 16 ≡ half_of c = omega arith in
    let rest : (16 * half_of c + half_of d) % 16 ≡ half_of d = omega arith in
    ap₂ (λ (x : ℕ) (xs : List ℕ). x ∷ xs) (ap digit_of high ∙ half-digit c first.0)
    (ap₂ (λ (x : ℕ) (xs : List ℕ). x ∷ xs) (ap digit_of rest ∙ half-digit d second.0)
    (hex-again characters second.1 (omega arith)))
