-- What an act must hold so that the state after it is within its limits.
use Rattle.std.specs.Prelude.{◌≡◌, ℕ, ◌≤◌, ◌<◌}
use Rattle.line.specs.Line.{top_bit}
use Rattle.phases.specs.Phases.{waiting, answered}
use Rattle.phases.specs.declared.Act.{Act}
use Rattle.phases.specs.declared.Act.TheVariants.{Go, First, Both, More, Ended, Quit, Poll, Send, Judge}

-- an item of the list, whose last one has this number
abbrev pub Listed : ℕ → ℕ → Type 0
Listed last item = (1 ≤ item) × (item ≤ last)

-- a known phase that needs no item, since all else becomes 0; kept characters below 80H; an item of the list
abbrev pub Limited : ℕ → Act → Type 0
Limited last (Go phase) = (phase ≤ answered) × (phase ≡ waiting → ⊥)
Limited last (First a) = a < top_bit
Limited last (Both a b) = (a < top_bit) × (b < top_bit)
Limited last (More c) = Unit
Limited last Ended = Unit
Limited last (Quit refusal) = Unit
Limited last (Poll a b) = Unit
Limited last (Send item) = Listed last item
Limited last (Judge c) = Unit
