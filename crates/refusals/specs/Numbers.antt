-- The number of each refusal. Assumes nothing. Contracts tell refusals by number, since the pages and the C interface name them so, a rule of the project.
use Rattle.std.specs.Prelude.{ℕ, Ok, Err, Result}
use Rattle.refusals.specs.declared.Refusal.{Refusal}
use Rattle.refusals.specs.declared.Refusal.TheVariants.{TooLong, NotUtf8, StartPastEnd, WrongOpening, IndexPastEnd, UnlawfulPattern, MalformedCommand, NoEntry, NoRecord, NoSlot, NoPlace, NoCapacity, PartNotUtf8}

abbrev pub number_of : Refusal → ℕ
number_of TooLong = 1
number_of (NotUtf8 prefix) = 2
number_of StartPastEnd = 3
number_of WrongOpening = 4
number_of IndexPastEnd = 5
number_of UnlawfulPattern = 6
number_of MalformedCommand = 7
number_of NoEntry = 8
number_of NoRecord = 9
number_of NoSlot = 10
number_of NoPlace = 11
number_of NoCapacity = 12
number_of PartNotUtf8 = 13

-- an answer with its refusal told by number
abbrev pub numbered : {A : Type 0} → Result A Refusal → Result A ℕ
numbered (Ok a) = Ok a
numbered (Err e) = Err (number_of e)
