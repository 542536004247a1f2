-- The writes that are left to a walk over bytes of data.
use Rattle.std.specs.Prelude.{ℕ, ℤ, List}
use Rattle.writes.specs.declared.Asked.{Asked}
use Rattle.writes.specs.Writes.{Write, writes}

-- an item of the walk as a write
abbrev pub write : ℕ × ℤ → Write
write p = record { place = p.0; value = p.1 }

abbrev pub left : Asked → List Write
left walk = writes walk.register walk.bytes.now
