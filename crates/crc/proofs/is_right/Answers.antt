-- The code compares the two numbers that the definition compares.
use Rattle.std.proofs.Common.{◌≡◌, ℕ, ◌+◌, ◌-◌, ◌*◌, nat_eq, List, length, get_or, drop, ap, ap₂, ◌∙◌, arith}
use borrow.Author.Tests.{le-leb, lt-leb}
use Rattle.std.proofs.lemmas.List.{get_or-drop}
use Rattle.crc.specs.Crc.{crc16_of, body_of, is_right}
use Rattle.crc.proofs.is_right.Goals as goal

pub returns-in_default : goal.returns-in_default
unfolding is_right
returns-in_default c = rw (lt-leb 2 (length c.args.frame.now) c.in_default.ensures.cases)

compared : (frame body last : List ℕ) (crc brought : ℕ) → length body + 2 ≡ length frame → body ≡ body_of frame
    → last ≡ drop (length frame - 2) frame → crc ≡ crc16_of body → brought ≡ get_or last 0 0 + get_or last 1 0 * 256
    → nat_eq crc brought ≡ is_right frame
unfolding is_right
compared frame body last crc brought h p q r s =
    rw (le-leb 2 (length frame) (omega arith)) (ap₂ nat_eq (r ∙ ap crc16_of p) brings)
  where
    brings : brought ≡ get_or frame (length frame - 2) 0 + 256 * get_or frame (length frame - 1) 0
    brings =
        let low : get_or last 0 0 ≡ get_or frame (length frame - 2 + 0) 0 = ap (λ (l : List ℕ). get_or l 0 0) q ∙ get_or-drop _ frame 0 0 in
        let high : get_or last 1 0 ≡ get_or frame (length frame - 2 + 1) 0 = ap (λ (l : List ℕ). get_or l 1 0) q ∙ get_or-drop _ frame 1 0 in
        let first : length frame - 2 + 0 ≡ length frame - 2 = omega arith in
        let second : length frame - 2 + 1 ≡ length frame - 1 = omega arith in
        s ∙ rw (low, high, first, second) (omega arith)

pub returns : goal.returns
returns c =
    let e = c.in-Some.ensures.cases in
    compared _ _ _ _ _ e.2 e.0 e.1 c.crc16.ensures c.from_le_bytes.ensures
