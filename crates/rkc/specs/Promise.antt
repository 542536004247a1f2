-- What the promises of a step and of a call say of its result, of the reply buffer and of the table.
use Rattle.std.specs.Prelude.{◌≡◌, ℕ, List, length, ℤ}
use Rattle.std.proofs.lemmas.List.Edits.{sets}
use Rattle.rkc.specs.declared.Stepped.{Stepped}
use Rattle.rkc.specs.Outcome.{Step, Outcome, ByteCall, received, IdleCall, idled}

-- the state, the number and the reply's length are handed back; the reply stands at the buffer's front, and the bytes past it
-- stay
pub record Steps (s : Step) (r : Stepped) (before after : List ℕ) : Type 0 where
  pub back : r ≡ record { link = s.link; number = s.number; len = length s.reply }
  pub sent : after ≡ sets before 0 s.reply

-- the same, and the table is left so
pub record Does (o : Outcome) (r : Stepped) (before after : List ℕ) (table : List ℤ) : Type 0 where
  pub steps : Steps o.step r before after
  pub left : table ≡ o.table

-- what a byte call leads to, in the buffer and the table that it is lent
abbrev pub Leads : ByteCall → Stepped → List ℕ → List ℤ → Type 0
Leads call r after left = Does (received call) r call.buffer after left

-- what an idle call leads to
abbrev pub Idles : IdleCall → Stepped → List ℕ → Type 0
Idles call r after = Steps (idled call) r call.buffer after
