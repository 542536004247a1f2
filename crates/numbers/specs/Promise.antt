-- What it is for a function to promise one outcome. Its contract is the one that the prover makes of its source: T says what it
-- takes, gives and is lent, Met what its `ensures` says of a result and of all that was lent as it is left, Asked what its
-- `requires` says.
use Rattle.std.specs.Prelude.{ℕ, ◌≡◌, List}
use contract.Lifetimes.{Lfts}
use Rattle.std.specs.Borrow.{Bor}
use denote.Triple.Entry.{Args, Res}
use denote.Triple.Clauses.{Ended, AtExit, Lasts, at_exit}

-- what a contract says of a call and its outcome
abbrev pub Says : Ended → Type 1
Says T = (κs : Lfts T.signature.lifetimes) → Args T.signature κs → Res T.signature κs → AtExit T κs → Type 0

-- what it says of a call alone
abbrev pub Asks : Ended → Type 1
Asks T = (κs : Lfts T.signature.lifetimes) → Args T.signature κs → Type 0

-- Whatever a call is handed, nothing is asked of it, and two outcomes that meet the promise are the same outcome: the result, with
-- the last value of everything that was lent.
pub record OneOutcome (T : Ended) (Asked : Asks T) (Met : Says T) : Type 0 where
  pub asks_nothing : (κs : Lfts T.signature.lifetimes) (a : Args T.signature κs) → Asked κs a
  pub single : (κs : Lfts T.signature.lifetimes) (a : Args T.signature κs) (o u : Res T.signature κs × Lasts T κs a)
      → Met κs a o.0 (at_exit T κs a o.1) → Met κs a u.0 (at_exit T κs a u.1) → o ≡ u

-- The same of a function that gives back a part of what it was lent: two outcomes have the same bytes, which stand at the same place.
-- Beside these a part has a name, which the prover chooses anew for each and no promise can tell.
pub record OnePart (T : Ended) (part : (κs : Lfts T.signature.lifetimes) → Res T.signature κs → Bor (List ℕ)) (Asked : Asks T)
    (Met : Says T) : Type 0 where
  pub asks_nothing : (κs : Lfts T.signature.lifetimes) (a : Args T.signature κs) → Asked κs a
  pub single : (κs : Lfts T.signature.lifetimes) (a : Args T.signature κs) (o u : Res T.signature κs × Lasts T κs a)
      → Met κs a o.0 (at_exit T κs a o.1) → Met κs a u.0 (at_exit T κs a u.1)
      → ((part κs o.0).now ≡ (part κs u.0).now) × ((part κs o.0).ref_ptr ≡ (part κs u.0).ref_ptr) × (o.1 ≡ u.1)

-- the promise of a function that gives back a number and is lent one thing: this number, and the thing is left so
pub record Lent {A : Type 0} (number : ℕ) (lent : A) (r : ℕ) (after : A) : Type 0 where
  pub given : r ≡ number
  pub left : after ≡ lent
