-- Refusals have numbers of their own, none of them that of an outcome without a refusal, so a number tells the outcome.
-- Assumes nothing.
use mathlib.Core.Path.{◌≡◌, refl, sym, ap, ◌∙◌}
use mathlib.Core.List.{List, [], ◌∷◌}
use Prim.Native.Nat.{ℕ}
use native.Mathlib.Omega.{arith}
use lib.ListN.{get_or}
use Rattle.std.specs.Prelude.{Option, Result, Ok, Err}
use Rattle.std.specs.Result.{result_err}
use Rattle.numbers.specs.declared.Refusal.{Refusal}
use Rattle.numbers.specs.declared.Refusal.TheVariants.{WrongLength, EntryOutside, ShortBuffer, BadSetting, BadState, NoSuchItem, ValueOutside}
use Rattle.numbers.specs.declared.Refusal.TheVariants.{DoesNotFit, TooManyDecimals}
use Rattle.numbers.specs.declared.Refusal.TheVariants.{LineError, WrongBcc, UnderTwo, UnknownIdentifier, OverSixCharacters, NoNumber, ReadOnly, OutOfRange}
use Rattle.numbers.specs.declared.Refusal.TheVariants.{WrongFrameLength, WrongCrc, OtherAddress, WrongLine, WrongLrc}
use Rattle.numbers.specs.declared.Refusal.TheVariants.{UnknownFunction, WrongRegister, WrongData}
use Rattle.numbers.specs.declared.Refusal.TheVariants.{NotBelonging, UnknownPolled, NotAwaited, TimedOut, ListEnded, NoRoom, BadCapture, NoSuchFrame}
use Rattle.numbers.specs.Numbers.{none}
use Rattle.numbers.specs.Refusals.{number_of, number_if, number_given, value_or}
use Rattle.numbers.specs.Promise.{Lent}

-- the refusals by their numbers; at a number that none has another stands
by-number : List Refusal
by-number =
    WrongLength ∷ WrongLength ∷ EntryOutside ∷ ShortBuffer ∷ BadSetting ∷ BadState ∷ NoSuchItem ∷ ValueOutside ∷ DoesNotFit ∷ TooManyDecimals
    ∷ WrongLength ∷ LineError ∷ WrongBcc ∷ UnderTwo ∷ UnknownIdentifier ∷ OverSixCharacters ∷ NoNumber ∷ ReadOnly ∷ OutOfRange ∷ WrongLength
    ∷ WrongLength ∷ WrongFrameLength ∷ WrongCrc ∷ OtherAddress ∷ WrongLine ∷ WrongLrc ∷ WrongLength ∷ WrongLength ∷ WrongLength ∷ WrongLength
    ∷ WrongLength ∷ UnknownFunction ∷ WrongRegister ∷ WrongData ∷ WrongLength ∷ WrongLength ∷ WrongLength ∷ WrongLength ∷ WrongLength ∷ WrongLength
    ∷ WrongLength ∷ NotBelonging ∷ UnknownPolled ∷ NotAwaited ∷ TimedOut ∷ ListEnded ∷ NoRoom ∷ WrongLength ∷ WrongLength ∷ WrongLength
    ∷ WrongLength ∷ BadCapture ∷ NoSuchFrame ∷ []

told : (r : Refusal) → get_or by-number (number_of r) WrongLength ≡ r
unfolding by-number
told WrongLength = refl
told EntryOutside = refl
told ShortBuffer = refl
told BadSetting = refl
told BadState = refl
told NoSuchItem = refl
told ValueOutside = refl
told DoesNotFit = refl
told TooManyDecimals = refl
told LineError = refl
told WrongBcc = refl
told UnderTwo = refl
told UnknownIdentifier = refl
told OverSixCharacters = refl
told NoNumber = refl
told ReadOnly = refl
told OutOfRange = refl
told WrongFrameLength = refl
told WrongCrc = refl
told OtherAddress = refl
told WrongLine = refl
told WrongLrc = refl
told UnknownFunction = refl
told WrongRegister = refl
told WrongData = refl
told NotBelonging = refl
told UnknownPolled = refl
told NotAwaited = refl
told TimedOut = refl
told ListEnded = refl
told NoRoom = refl
told BadCapture = refl
told NoSuchFrame = refl

-- two refusals with one number are the same
pub same-refusal : {r s : Refusal} → number_of r ≡ number_of s → r ≡ s
same-refusal {r} {s} e = sym (told r) ∙ ap (λ n. get_or by-number n WrongLength) e ∙ told s

-- no refusal has the number of an outcome without one
pub refusal-met : (r : Refusal) → number_of r ≡ none → ⊥
refusal-met WrongLength e = absurd (omega arith)
refusal-met EntryOutside e = absurd (omega arith)
refusal-met ShortBuffer e = absurd (omega arith)
refusal-met BadSetting e = absurd (omega arith)
refusal-met BadState e = absurd (omega arith)
refusal-met NoSuchItem e = absurd (omega arith)
refusal-met ValueOutside e = absurd (omega arith)
refusal-met DoesNotFit e = absurd (omega arith)
refusal-met TooManyDecimals e = absurd (omega arith)
refusal-met LineError e = absurd (omega arith)
refusal-met WrongBcc e = absurd (omega arith)
refusal-met UnderTwo e = absurd (omega arith)
refusal-met UnknownIdentifier e = absurd (omega arith)
refusal-met OverSixCharacters e = absurd (omega arith)
refusal-met NoNumber e = absurd (omega arith)
refusal-met ReadOnly e = absurd (omega arith)
refusal-met OutOfRange e = absurd (omega arith)
refusal-met WrongFrameLength e = absurd (omega arith)
refusal-met WrongCrc e = absurd (omega arith)
refusal-met OtherAddress e = absurd (omega arith)
refusal-met WrongLine e = absurd (omega arith)
refusal-met WrongLrc e = absurd (omega arith)
refusal-met UnknownFunction e = absurd (omega arith)
refusal-met WrongRegister e = absurd (omega arith)
refusal-met WrongData e = absurd (omega arith)
refusal-met NotBelonging e = absurd (omega arith)
refusal-met UnknownPolled e = absurd (omega arith)
refusal-met NotAwaited e = absurd (omega arith)
refusal-met TimedOut e = absurd (omega arith)
refusal-met ListEnded e = absurd (omega arith)
refusal-met NoRoom e = absurd (omega arith)
refusal-met BadCapture e = absurd (omega arith)
refusal-met NoSuchFrame e = absurd (omega arith)

-- ---- outcomes

-- two outcomes with one number and one value are the same
pub same-outcome : {A : Type 0} (other : A) (x y : Result A Refusal) → number_given x ≡ number_given y → value_or other x ≡ value_or other y → x ≡ y
same-outcome other (Ok x) (Ok y) n v = ap Ok v
same-outcome other (Err r) (Err s) n v = ap Err (same-refusal n)
same-outcome other (Ok x) (Err s) n v = absurd (refusal-met s (sym n))
same-outcome other (Err r) (Ok y) n v = absurd (refusal-met r n)

-- where an outcome has no value of its own, the number tells it
pub same-given : {x y : Result Unit Refusal} → number_given x ≡ number_given y → x ≡ y
same-given {x} {y} e = same-outcome tt x y e refl

module _ {A : Type 0} {number : ℕ} {lent : A} {x y : Result Unit Refusal} {after other : A} where
  -- an outcome that has no value, and one thing that was lent
  pub lent-given : Lent number lent (number_given x) after → Lent number lent (number_given y) other → (x ≡ y) × (after ≡ other)
  lent-given p q = (same-given (p.given ∙ sym q.given), p.left ∙ sym q.left)

-- an outcome is refused exactly where its number is met
pub given-met : {A : Type 0} {x : Result A Refusal} {r : Refusal} → x ≡ Err r → number_given x ≡ none → ⊥
given-met {r} e z = refusal-met r (sym (ap number_given e) ∙ z)

-- the number of what an outcome was refused for is the one that it gives
pub number_of_err : {A : Type 0} (x : Result A Refusal) → number_if (result_err x) ≡ number_given x
number_of_err (Ok x) = refl
number_of_err (Err r) = refl

pub given_if : {A : Type 0} (x : Result A Refusal) {refused : Option Refusal} {number : ℕ} → refused ≡ result_err x
    → number ≡ number_if refused → number ≡ number_given x
given_if x e n = n ∙ ap number_if e ∙ number_of_err x
