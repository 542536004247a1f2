-- The BCC is a fold of the characters.
use Rattle.std.specs.List.{fold}
use Rattle.std.specs.Int.Bits.{bit_xor}
use Rattle.std.proofs.Common.{◌≡◌, ℕ, List, [], ◌∷◌, refl, ◌∙◌, rules}
use Rattle.line.specs.Line.{bcc_from}
use Rattle.line.proofs.bcc.Goals as goal

folded : (sum : ℕ) (cs : List ℕ) → fold bit_xor sum cs ≡ bcc_from sum cs
unfolding bcc_from
folded sum [] = refl
folded sum (c ∷ cs) = folded (bit_xor sum c) cs

pub returns : goal.returns
returns c =
    let e : c.fold.result ≡ fold bit_xor 0 c.args.chars.now = search rules in
    e ∙ folded 0 c.args.chars.now
