-- The number of each reason for a refusal.
use Rattle.std.specs.Prelude.{◌≡◌, ℕ}
use Rattle.refusal_numbers.specs.declared.Reason.{Reason}
use Rattle.refusal_numbers.specs.declared.Reason.TheVariants.{Shut, AlreadyOpen, ValueCount, BufferSize, BufferMismatch, NoSuchStation, NoSuchPlace}
use Rattle.refusal_numbers.specs.declared.Reason.TheVariants.{Unreadable, StationDown, AlreadySent, NotListening, HoldsLetter, PoolFull, BookFull}
use Rattle.refusal_numbers.specs.declared.Reason.TheVariants.{LastRound, TooLong, WrongRule, WrongValues, WrongStep, Unfinished}

abbrev pub number_of : Reason → ℕ
-- of a call, in checking order
number_of Shut = 1
number_of AlreadyOpen = 2
number_of ValueCount = 3
number_of BufferSize = 4
number_of BufferMismatch = 5
number_of NoSuchStation = 6
number_of NoSuchPlace = 7
number_of Unreadable = 8
number_of StationDown = 9
number_of AlreadySent = 10
number_of NotListening = 11
number_of HoldsLetter = 12
number_of PoolFull = 13
number_of BookFull = 14
number_of LastRound = 15
-- of a text
number_of TooLong = 16
number_of WrongRule = 17
number_of WrongValues = 18
number_of WrongStep = 19
number_of Unfinished = 20

-- no other reason has the number
abbrev pub IsTheOnlyOne : Reason → ℕ → Type 0
IsTheOnlyOne r n = (other : Reason) → number_of other ≡ n → other ≡ r
