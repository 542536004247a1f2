-- The kept characters.
use Rattle.std.specs.Prelude.{List, [], ◌∷◌, ℕ, zero, suc}

-- how many characters are cut as one number: as many as 64 bits have bytes
abbrev pub places : ℕ
places = 8

-- those up to the count, and 0 past it
abbrev pub up_to : ℕ → List ℕ → List ℕ
up_to count [] = []
up_to zero (c ∷ cs) = 0 ∷ up_to zero cs
up_to (suc count) (c ∷ cs) = c ∷ up_to count cs
