-- What fits six characters, in document 01's figures; that other decimals move the point alone; and demand 2: any value that fits,
-- written out and read again at the same decimals, is that value.
use Rattle.std.specs.Prelude.{◌≡◌, Bool, true, cond, ◌&&◌, List, [], ◌∷◌, ℕ, ◌≤◌, eqb, ℤ, pos}
use Rattle.std.specs.Int.Signed.{le_z}
use Rattle.numbers.specs.Numbers.{none}
use Rattle.sign.specs.Sign.{minus}
use Rattle.text.specs.Characters.{point}
use Rattle.text.specs.Numbers.{least_width}
use Rattle.text.specs.Reading.{read_number, read_value}
use Rattle.text.specs.Writing.{fits, text, written}

-- from low to high
abbrev pub between : ℤ → ℤ → ℤ → Bool
between low high v = le_z low v && le_z v high

-- for d = 0, -99999 to 999999; for d = 1 to 3, -9999 to 99999
pub record WhatFits : Type 0 where
  pub whole : (v : ℤ) → fits 6 0 v ≡ between (minus 99999) (pos 999999) v
  pub pointed : (d : ℕ) (v : ℤ) → 1 ≤ d → d ≤ 3 → fits 6 d v ≡ between (minus 9999) (pos 99999) v

-- characters with the point taken out
abbrev pub without_point : List ℕ → List ℕ
without_point [] = []
without_point (c ∷ cs) = cond (eqb c point) (without_point cs) (c ∷ without_point cs)

-- other decimals move the point alone: with it taken out, a value has the same characters at all decimals from 1 on
abbrev pub PointAlone : Type 0
PointAlone = (width d e : ℕ) (v : ℤ) → 1 ≤ d → 1 ≤ e → without_point (text width d v) ≡ without_point (text width e v)

-- a value is written, and the characters, read at the same decimals, are that value
pub record RoundTrip (width d : ℕ) (v : ℤ) : Type 0 where
  pub is_written : (written width d v).number ≡ none
  pub is_read : read_number width d (written width d v).chars ≡ none
  pub same : read_value width d (written width d v).chars ≡ v

-- demand 2: every value that fits makes the round trip, in every width from the least on
abbrev pub Demand2 : Type 0
Demand2 = (width d : ℕ) (v : ℤ) → least_width ≤ width → d ≤ 3 → fits width d v ≡ true → RoundTrip width d v
