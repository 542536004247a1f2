-- What the last colon drops: found from either end.
-- Assumes nothing.
use Rattle.std.proofs.Common.{◌≡◌, ◌≢◌, ℕ, zero, suc, ◌+◌, ◌-◌, ◌<◌, ◌≤◌, Bool, true, false, cond, eqb, leb, List, [], ◌∷◌, ◌++◌, length, get_or, drop, refl, ap, ◌∙◌, arith, ne_eqb, eqb-true, le-leb, leb-true}
use borrow.Author.Tests.{lt-leb}
use lib.Seq.{drop-append-add}
use Rattle.ascii.specs.Line.{colon, dropped, behind_colon}

-- what stands in front of a line that has a colon is dropped too
pub dropped-front : (before line : List ℕ) → 1 ≤ dropped line → dropped (before ++ line) ≡ length before + dropped line
unfolding dropped
dropped-front [] line h = omega arith
dropped-front (b ∷ before) line h =
    let rest = dropped-front before line h in
    rw (rest, le-leb 1 (length before + dropped line) (omega arith)) (omega arith)

-- ---- a line and its last colon

pub dropped-short : (line : List ℕ) → dropped line ≤ length line
unfolding dropped
dropped-short [] = omega arith
dropped-short (c ∷ line) = by (dropped line) (dropped-short line) (leb 1 (dropped line)) (eqb c colon)
  where
    by : (n : ℕ) → n ≤ length line → (some here : Bool) → cond some (suc n) (cond here 1 0) ≤ suc (length line)
    by n h true here = omega arith
    by n h false true = omega arith
    by n h false false = omega arith

-- what stands there is a colon
pub colon-there : (line : List ℕ) → 1 ≤ dropped line → get_or line (dropped line - 1) 0 ≡ colon
unfolding dropped
colon-there [] h = absurd (omega arith)
colon-there (c ∷ line) h = by (dropped line) (colon-there line) (leb 1 (dropped line)) (eqb c colon) refl refl h
  where
    by : (n : ℕ) → (1 ≤ n → get_or line (n - 1) 0 ≡ colon) → (some here : Bool) → leb 1 n ≡ some → eqb c colon ≡ here
        → 1 ≤ cond some (suc n) (cond here 1 0) → get_or (c ∷ line) (cond some (suc n) (cond here 1 0) - 1) 0 ≡ colon
    by n rest true here s e k =
        let some = leb-true 1 n s in
        let back : suc n - 1 ≡ suc (n - 1) = omega arith in
        ap (λ (j : ℕ). get_or (c ∷ line) j 0) back ∙ rest some
    by n rest false true s e k = eqb-true c colon e
    by n rest false false s e k = absurd (omega arith)

-- what stands behind it is the same whatever stands in front of a line that has one
pub behind-front : (before line : List ℕ) → 1 ≤ dropped line → behind_colon (before ++ line) ≡ behind_colon line
behind-front before line h =
    ap (λ (k : ℕ). drop k (before ++ line)) (dropped-front before line h) ∙ drop-append-add before line (dropped line)

-- a line behind a colon of its own, with no other
pub dropped-first : (rest : List ℕ) → dropped rest ≡ 0 → dropped (colon ∷ rest) ≡ 1
unfolding dropped
dropped-first rest e = rw (lt-leb 1 (dropped rest) (omega arith))

-- characters that are no colons
pub none_dropped : (xs ys : List ℕ) → ((i : ℕ) → i < length xs → get_or xs i 0 ≡ colon → ⊥) → dropped ys ≡ 0 → dropped (xs ++ ys) ≡ 0
unfolding dropped
none_dropped [] ys h e = e
none_dropped (x ∷ xs) ys h e =
    let rest = none_dropped xs ys (λ i k. h (suc i) (omega arith)) e in
    rw (lt-leb 1 (dropped (xs ++ ys)) (omega arith), ne_eqb x colon (h 0 (omega arith)))

-- a line of no colons, and one that has a colon and no other behind it
pub no_colon : (line : List ℕ) → ((k : ℕ) → k < length line → get_or line k 0 ≢ colon) → dropped line ≡ 0
unfolding dropped
no_colon [] h = refl
no_colon (c ∷ line) h =
    let rest = no_colon line (λ k l. h (suc k) (omega arith)) in
    rw (lt-leb 1 (dropped line) (omega arith), ne_eqb c colon (h 0 (omega arith)))

pub last_colon : (line : List ℕ) (i : ℕ) → i < length line → get_or line i 0 ≡ colon
    → ((k : ℕ) → i + 1 ≤ k → k < length line → get_or line k 0 ≢ colon) → dropped line ≡ i + 1
unfolding dropped
last_colon [] i inside here behind = absurd (omega arith)
last_colon (c ∷ line) zero inside here behind =
    ap (λ (x : ℕ). dropped (x ∷ line)) here ∙ dropped-first line (no_colon line (λ k l. behind (suc k) (omega arith) (omega arith)))
last_colon (c ∷ line) (suc i) inside here behind =
    let rest = last_colon line i (omega arith) here (λ k h l. behind (suc k) (omega arith) (omega arith)) in
    rw (le-leb 1 (dropped line) (omega arith)) (omega arith)
