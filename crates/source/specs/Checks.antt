-- Why bytes are no text. Assumes nothing.
use Rattle.std.specs.Prelude.{ℕ, ◌<◌, ◌≤◌, List, length, IsUtf8}
use Rattle.std.specs.Str.{IsValidUpTo}
use Rattle.refusals.specs.declared.Refusal.{Refusal}
use Rattle.refusals.specs.declared.Refusal.TheVariants.{TooLong, NotUtf8, StartPastEnd, WrongOpening, IndexPastEnd, UnlawfulPattern, MalformedCommand, NoEntry, NoRecord, NoSlot, NoPlace, NoCapacity, PartNotUtf8}
use Rattle.source.specs.Texts.{limit}

-- too long; or else not UTF-8, and then the number is the length of the longest well-formed prefix
abbrev pub NoText : List ℕ → Refusal → Type 0
NoText bytes TooLong = limit < length bytes
NoText bytes (NotUtf8 prefix) = (length bytes ≤ limit) × (IsUtf8 bytes → ⊥) × IsValidUpTo bytes prefix
NoText bytes StartPastEnd = ⊥
NoText bytes WrongOpening = ⊥
NoText bytes IndexPastEnd = ⊥
NoText bytes UnlawfulPattern = ⊥
NoText bytes MalformedCommand = ⊥
NoText bytes NoEntry = ⊥
NoText bytes NoRecord = ⊥
NoText bytes NoSlot = ⊥
NoText bytes NoPlace = ⊥
NoText bytes NoCapacity = ⊥
NoText bytes PartNotUtf8 = ⊥
