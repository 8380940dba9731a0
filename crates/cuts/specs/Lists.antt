-- Lists in lent cells: what is lent, the cells used, the finished lists, the open one, and what there is room for. Assumes nothing.
use Rattle.std.specs.Prelude.{◌≡◌, ℕ, ◌+◌, ◌<◌, ◌≤◌, Bool, List, [], length, drop, nat_le, nat_lt, slice_index_or}
use Rattle.lent.specs.Items.{items_of, memory_of, room_of}
use Rattle.store.specs.Cuts.{part, cut, final}
use Rattle.cuts.specs.declared.lists.Cuts.{Cuts}

-- the lent cells and places
abbrev pub memory : {T : Type 0} → Cuts T → List T
memory c = memory_of c.cells

abbrev pub table : {T : Type 0} → Cuts T → List ℕ
table c = memory_of c.ends

-- the cells of all lists, and where each finished one ends
abbrev pub used : {T : Type 0} → Cuts T → List T
used c = items_of c.cells

abbrev pub marks : {T : Type 0} → Cuts T → List ℕ
marks c = items_of c.ends

-- where the last finished list ends
abbrev pub finished : {T : Type 0} → Cuts T → ℕ
finished c = final 0 (marks c)

abbrev pub lists : {T : Type 0} → Cuts T → List (List T)
lists c = cut (used c) 0 (marks c)

abbrev pub opened : {T : Type 0} → Cuts T → List T
opened c = drop (finished c) (used c)

-- how many cells and how many lists there may be
abbrev pub capacity_of : {T : Type 0} → Cuts T → ℕ
capacity_of c = room_of c.cells

abbrev pub places_of : {T : Type 0} → Cuts T → ℕ
places_of c = room_of c.ends

-- there is room for one more cell, for an open list, for one more finished list
abbrev pub has_cell : {T : Type 0} → Cuts T → Bool
has_cell c = nat_lt (length (used c)) (capacity_of c)

abbrev pub takes : {T : Type 0} → Cuts T → List T → Bool
takes c us = nat_le (finished c + length us) (capacity_of c)

abbrev pub has_place : {T : Type 0} → Cuts T → Bool
has_place c = nat_lt (length (lists c)) (places_of c)

-- the same memory is lent
abbrev pub SameLent : {T : Type 0} → Cuts T → Cuts T → Type 0
SameLent c c' = (c'.cells.memory.ghost_name ≡ c.cells.memory.ghost_name) × (c'.ends.memory.ghost_name ≡ c.ends.memory.ghost_name)

-- what every change leaves as it was: the memory lent, and how many cells and lists there may be
pub record Stays {T : Type 0} (c c' : Cuts T) : Type 0 where
  pub capacity : capacity_of c' ≡ capacity_of c
  pub places : places_of c' ≡ places_of c
  pub lent : SameLent c c'

-- and what a change to the open list alone leaves: the finished lists, and where each ends
pub record SameLists {T : Type 0} (c c' : Cuts T) : Type 0 where
  pub lists : lists c' ≡ lists c
  pub marks : marks c' ≡ marks c

-- list n has the cells from a place to another
pub record IsPlace {T : Type 0} (c : Cuts T) (n from to : ℕ) : Type 0 where
  pub there : n < length (lists c)
  pub up : from ≤ to
  pub inside : to ≤ length (used c)
  pub cells : part (used c) from to ≡ slice_index_or (lists c) n []
