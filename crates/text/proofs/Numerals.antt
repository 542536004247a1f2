-- Digits: how many a number has, the number that they write, and that the digits of a number write that number.
-- Assumes nothing.
use mathlib.Core.Path.{◌≡◌, refl, sym, ap, ap₂, ◌∙◌}
use mathlib.Core.Bool.{Bool, true, ◌&&◌, and_assoc}
use mathlib.Core.List.{List, [], ◌∷◌, ◌++◌}
use Prim.Native.Nat.{ℕ, zero, suc, ◌+◌, ◌-◌, ◌*◌, ◌/◌, ◌%◌, ◌^◌, ◌<◌, ◌≤◌}
use native.Mathlib.Nat.{add-zero, add-suc, suc-add, mod-one, one-le-pow, pow-le-pow_right, pow-suc}
use native.Mathlib.Omega.{arith}
use borrow.Author.Tests.{le-leb, leb-true}
use lib.Arith.{mod-mul}
use lib.Dec.{leb}
use lib.ListN.{length, drop, length-append}
use lib.Seq.{drop-append-le}
use Rattle.numbers.proofs.Tests.{both}
use Rattle.text.specs.Characters.{zero_digit, nine_digit, is_digit}
use Rattle.text.specs.Reading.{all_digits, number_from}
use Rattle.text.specs.Writing.{digits}

-- ---- tests

pub digit-range : (c : ℕ) → is_digit c ≡ true → (zero_digit ≤ c) × (c ≤ nine_digit)
digit-range c e = let p = both (leb zero_digit c) (leb c nine_digit) e in (leb-true zero_digit c p.0, leb-true c nine_digit p.1)

pub all_append : (xs ys : List ℕ) → all_digits (xs ++ ys) ≡ (all_digits xs && all_digits ys)
all_append [] ys = refl
all_append (x ∷ xs) ys =
    ap (λ (b : Bool). is_digit x && b) (all_append xs ys) ∙ sym (and_assoc (is_digit x) (all_digits xs) (all_digits ys))

-- both parts of a run of digits are digits
pub parts-digits : (xs ys : List ℕ) → all_digits (xs ++ ys) ≡ true → (all_digits xs ≡ true) × (all_digits ys ≡ true)
parts-digits xs ys e = both (all_digits xs) (all_digits ys) (sym (all_append xs ys) ∙ e)

-- ---- how large a number of so many digits is

pub one_more : (n k c : ℕ) → n < 10 ^ k → c ≤ 9 → n * 10 + c < 10 ^ suc k
one_more n k c h d = rw (pow-suc 10 k) (omega arith)

pub at_most : (n k m : ℕ) → n < 10 ^ k → k ≤ m → n < 10 ^ m
at_most n k m h le = let p = pow-le-pow_right {n = 10} (omega arith) le in omega arith

pub number-below : (cs : List ℕ) (n k : ℕ) → all_digits cs ≡ true → n < 10 ^ k → number_from n cs < 10 ^ (k + length cs)
number-below [] n k d h = rw add-zero h
number-below (c ∷ cs) n k d h =
    let p = both (is_digit c) (all_digits cs) d in
    let q = digit-range c p.0 in
    let more = one_more n k (c - zero_digit) h (omega arith) in
    rw (add-suc k (length cs), ← suc-add k (length cs)) (number-below cs (n * 10 + (c - zero_digit)) (suc k) p.1 more)

-- ---- the number that digits write

pub number_append : (n : ℕ) (xs ys : List ℕ) → number_from n (xs ++ ys) ≡ number_from (number_from n xs) ys
number_append n [] ys = refl
number_append n (x ∷ xs) ys = number_append (n * 10 + (x - zero_digit)) xs ys

-- ---- the digits of a number

pub digits-length : (k n : ℕ) → length (digits k n) ≡ k
digits-length zero n = refl
digits-length (suc k) n =
    let e = digits-length k (n / 10) in length-append (digits k (n / 10)) ((zero_digit + n % 10) ∷ []) ∙ omega arith

-- one digit less is the same digits without the first
pub fewer_digits : (k n : ℕ) → drop 1 (digits (suc k) n) ≡ digits k n
fewer_digits zero n = refl
fewer_digits (suc k) n =
    let last = (zero_digit + n % 10) ∷ [] in
    let l = digits-length (suc k) (n / 10) in
    drop-append-le 1 (digits (suc k) (n / 10)) last (omega arith) ∙ ap (λ (ds : List ℕ). ds ++ last) (fewer_digits k (n / 10))

digits-digit : (n : ℕ) → is_digit (zero_digit + n % 10) ≡ true
digits-digit n = rw (le-leb zero_digit (zero_digit + n % 10) (omega arith), le-leb (zero_digit + n % 10) nine_digit (omega arith))

pub digits-all : (k n : ℕ) → all_digits (digits k n) ≡ true
digits-all zero n = refl
digits-all (suc k) n = all_append (digits k (n / 10)) ((zero_digit + n % 10) ∷ []) ∙ rw (digits-all k (n / 10), digits-digit n)

pub number_digits : (k n : ℕ) → number_from 0 (digits k n) ≡ n % 10 ^ k
number_digits zero n = sym (mod-one n)
number_digits (suc k) n =
    number_append 0 (digits k (n / 10)) ((zero_digit + n % 10) ∷ [])
    ∙ ap₂ (λ (a b : ℕ). a * 10 + b) (number_digits k (n / 10)) (omega arith)
    ∙ sym (mod-mul n {m = 10 ^ k} {c = 10} (one-le-pow k 10 (omega arith)) (omega arith))
    ∙ ap (λ (m : ℕ). n % m) (sym (pow-suc 10 k))
