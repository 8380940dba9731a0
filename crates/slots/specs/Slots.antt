-- Slots, and the entries that they hold. Assumes nothing.
use Rattle.std.specs.Prelude.{ℕ, List, map}
use Rattle.slots.specs.declared.map.Slot.{Slot}

abbrev pub told : {V : Type 0} → Slot V → ℕ × V
told s = (s.start, s.value)

abbrev pub entries : {V : Type 0} → List (Slot V) → List (ℕ × V)
entries slots = map told slots
