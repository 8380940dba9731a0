-- Items in lent memory: the memory, how many items it takes, and the items. Assumes nothing.
use Rattle.std.specs.Prelude.{ℕ, min, Bool, cond, List, length, take, nat_lt, slice_set}
use Rattle.lent.specs.declared.items.Lent.{Lent}

abbrev pub memory_of : {T : Type 0} {MOST : ℕ} → Lent T MOST → List T
memory_of l = l.memory.now

-- the first cells, as many as are used
abbrev pub items_of : {T : Type 0} {MOST : ℕ} → Lent T MOST → List T
items_of l = take l.used (memory_of l)

-- the cells, up to the most
abbrev pub room_of : {T : Type 0} {MOST : ℕ} → Lent T MOST → ℕ
room_of {T} {MOST} l = min (length (memory_of l)) MOST

-- some cell is free
abbrev pub free : {T : Type 0} {MOST : ℕ} → Lent T MOST → Bool
free l = nat_lt (length (items_of l)) (room_of l)

-- the memory with an item in the first free cell, and as it is where none is free
abbrev pub pushed : {T : Type 0} {MOST : ℕ} → Lent T MOST → T → List T
pushed l x = cond (free l) (slice_set (memory_of l) l.used x) (memory_of l)
