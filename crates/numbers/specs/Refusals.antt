-- The number that each refusal gives back, and the one that an outcome gives: a refusal's, or none.
use Rattle.std.specs.Prelude.{ℕ, Option, Some, None, Result, Ok, Err}
use Rattle.numbers.specs.declared.Refusal.{Refusal}
use Rattle.numbers.specs.declared.Refusal.TheVariants.{WrongLength, EntryOutside, ShortBuffer, BadSetting, BadState, NoSuchItem, ValueOutside}
use Rattle.numbers.specs.declared.Refusal.TheVariants.{DoesNotFit, TooManyDecimals}
use Rattle.numbers.specs.declared.Refusal.TheVariants.{LineError, WrongBcc, UnderTwo, UnknownIdentifier, OverSixCharacters, NoNumber, ReadOnly, OutOfRange}
use Rattle.numbers.specs.declared.Refusal.TheVariants.{WrongFrameLength, WrongCrc, OtherAddress, WrongLine, WrongLrc}
use Rattle.numbers.specs.declared.Refusal.TheVariants.{UnknownFunction, WrongRegister, WrongData}
use Rattle.numbers.specs.declared.Refusal.TheVariants.{NotBelonging, UnknownPolled, NotAwaited, TimedOut, ListEnded, NoRoom, BadCapture, NoSuchFrame}
use Rattle.numbers.specs.Numbers.{none}

abbrev pub number_of : Refusal → ℕ
number_of WrongLength = 1
number_of EntryOutside = 2
number_of ShortBuffer = 3
number_of BadSetting = 4
number_of BadState = 5
number_of NoSuchItem = 6
number_of ValueOutside = 7
number_of DoesNotFit = 8
number_of TooManyDecimals = 9
number_of LineError = 11
number_of WrongBcc = 12
number_of UnderTwo = 13
number_of UnknownIdentifier = 14
number_of OverSixCharacters = 15
number_of NoNumber = 16
number_of ReadOnly = 17
number_of OutOfRange = 18
number_of WrongFrameLength = 21
number_of WrongCrc = 22
number_of OtherAddress = 23
number_of WrongLine = 24
number_of WrongLrc = 25
number_of UnknownFunction = 31
number_of WrongRegister = 32
number_of WrongData = 33
number_of NotBelonging = 41
number_of UnknownPolled = 42
number_of NotAwaited = 43
number_of TimedOut = 44
number_of ListEnded = 45
number_of NoRoom = 46
number_of BadCapture = 51
number_of NoSuchFrame = 52

-- the number given back where something may have been refused
abbrev pub number_if : Option Refusal → ℕ
number_if (Some refusal) = number_of refusal
number_if None = none

-- the number that an outcome gives back
abbrev pub number_given : {A : Type 0} → Result A Refusal → ℕ
number_given (Ok x) = none
number_given (Err refusal) = number_of refusal

-- the value of an outcome, and where it was refused another
abbrev pub value_or : {A : Type 0} → A → Result A Refusal → A
value_or other (Ok x) = x
value_or other (Err refusal) = other
