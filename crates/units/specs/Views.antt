-- A store of units: its lent cells and places, where its finished values end, and what it holds. Assumes nothing.
use Rattle.std.specs.Prelude.{ℕ, List}
use Rattle.store.specs.Held.{Held}
use Rattle.cuts.specs.Lists as cuts
use Rattle.units.specs.declared.Units.{Units}
use Rattle.units.specs.Meaning.{held_of}

abbrev pub cells : Units → List ℕ
cells s = cuts.memory s.cuts

abbrev pub ends : Units → List ℕ
ends s = cuts.table s.cuts

-- how many places and cells are in use
abbrev pub count : Units → ℕ
count s = s.cuts.ends.used

abbrev pub used : Units → ℕ
used s = s.cuts.cells.used

abbrev pub finished : Units → ℕ
finished s = cuts.finished s.cuts

abbrev pub meaning : Units → Held
meaning s = held_of s.cuts
