-- The first stop of a text, at or behind a place. Assumes nothing.
use Rattle.std.specs.Prelude.{◌≡◌, ℕ, ◌<◌, ◌≤◌, Bool, true, false, List, length, Some, None, Option, slice_index}

-- no byte from one place up to another stops
abbrev pub Free : (ℕ → Bool) → List ℕ → ℕ → ℕ → Type 0
Free stops bytes from to = (k : ℕ) → from ≤ k → k < to → stops (slice_index bytes k) ≡ false

-- the first stop at or behind a place: its place and its byte
pub record StopAt (stops : ℕ → Bool) (bytes : List ℕ) (from place byte : ℕ) : Type 0 where
  pub behind : from ≤ place
  pub within : place < length bytes
  pub read : byte ≡ slice_index bytes place
  pub stop : stops byte ≡ true
  pub first : Free stops bytes from place

abbrev pub FirstStop : (ℕ → Bool) → List ℕ → ℕ → Option (ℕ × ℕ) → Type 0
FirstStop stops bytes from (Some p) = StopAt stops bytes from p.0 p.1
FirstStop stops bytes from None = Free stops bytes from (length bytes)
