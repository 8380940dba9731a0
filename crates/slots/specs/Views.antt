-- A slot map: its lent slots, how many of them it may use, and its entries. Assumes nothing.
use Rattle.std.specs.Prelude.{ℕ, List}
use Rattle.lent.specs.Items as lent
use Rattle.slots.specs.declared.map.Slot.{Slot}
use Rattle.slots.specs.declared.map.SlotMap.{SlotMap}
use Rattle.slots.specs.Slots.{entries}

abbrev pub slots_of : {V : Type 0} → SlotMap V → List (Slot V)
slots_of m = lent.memory_of m.slots

-- the first slots, as many as are used
abbrev pub entries_of : {V : Type 0} → SlotMap V → List (ℕ × V)
entries_of m = entries (lent.items_of m.slots)

-- the slots, up to 4,096
abbrev pub room_of : {V : Type 0} → SlotMap V → ℕ
room_of m = lent.room_of m.slots
