-- How many stops some bytes have, and where the first is. Assumes nothing.
use Rattle.std.specs.Prelude.{ℕ, Bool, List, length, Some, None, Option, count_by}
use Rattle.stops.specs.First.{Free, StopAt}

-- how many of the bytes stop
abbrev pub tally : (ℕ → Bool) → List ℕ → ℕ
tally stops bytes = count_by stops bytes

-- the place of the first stop, or none where no byte stops
abbrev pub FirstPlace : (ℕ → Bool) → List ℕ → Option ℕ → Type 0
FirstPlace stops bytes None = Free stops bytes 0 (length bytes)
FirstPlace stops bytes (Some place) = (byte : ℕ) × StopAt stops bytes 0 place byte
