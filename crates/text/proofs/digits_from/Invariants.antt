-- Only digits so far, so those left decide, and the number has at most as many digits as `width` less those left.
use Rattle.std.proofs.Common.{◌≡◌, ◌+◌, ◌-◌, ◌<◌, ◌^◌, length, drop}
use Rattle.text.specs.Numbers.{width}
use Rattle.text.specs.Reading.{digits_from}
use Rattle.text.proofs.digits_from.Given as goal

abbrev pub invariant-loop-c : goal.invariant-loop-c
invariant-loop-c l =
    (l.n < 10 ^ (width - length l.chars + l.c-index)) × (digits_from l.n (drop l.c-index l.chars) ≡ digits_from l.from l.chars)
