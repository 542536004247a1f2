-- What the functions of this crate promise of a buffer that they are lent.
use Rattle.std.specs.Prelude.{◌≡◌, ℕ, cond, List, [], ◌∷◌, length, take, nat_le}
use Rattle.std.proofs.lemmas.List.Edits.{sets}
use Rattle.numbers.specs.Numbers.{unless}
use Rattle.ascii.specs.Hexadecimal.{bytes_of}
use Rattle.ascii.specs.Line.{wrong_line, wrong_lrc, line_of, dropped, behind_colon, ends_in_cr_lf, before_cr_lf, make_bytes, right_lrc}

-- the bytes of a line of the right form, and of any other line none: by the characters between, by what stands behind the last
-- colon, and by the line
unfoldable pub bytes_made : List ℕ → List ℕ
bytes_made characters = cond (make_bytes characters) (bytes_of characters) []

unfoldable pub bytes_behind : List ℕ → List ℕ
bytes_behind rest = cond (ends_in_cr_lf rest) (bytes_made (before_cr_lf rest)) []

unfoldable pub bytes_taken : List ℕ → List ℕ
bytes_taken line = cond (nat_le 1 (dropped line)) (bytes_behind (behind_colon line)) []

-- the fault of a line by those bytes: none are those of a wrong form
unfoldable pub bytes_fault : List ℕ → ℕ
bytes_fault [] = wrong_line
bytes_fault (b ∷ bytes) = unless (right_lrc (b ∷ bytes)) wrong_lrc

-- these bytes stand at the front of the buffer, and their number is handed back
pub record Takes (bytes after : List ℕ) (r : ℕ) : Type 0 where
  pub handed : r ≡ length bytes
  pub stand : take r after ≡ bytes

-- the body at the front of a buffer becomes its line: that stands there, the bytes past it stay, and its length is handed back
pub record Writes (before : List ℕ) (n : ℕ) (after : List ℕ) (r : ℕ) : Type 0 where
  pub handed : r ≡ length (line_of (take n before))
  pub sent : after ≡ sets before 0 (line_of (take n before))
