-- How lists in lent cells stand for a store of 16-bit units. Assumes nothing.
use Rattle.std.specs.Prelude.{ℕ}
use Rattle.store.specs.Held.{Held}
use Rattle.cuts.specs.declared.lists.Cuts.{Cuts}
use Rattle.cuts.specs.Lists.{lists, opened, places_of, capacity_of}

abbrev pub held_of : Cuts ℕ → Held
held_of c = record { values = lists c; draft = opened c; places = places_of c; capacity = capacity_of c }
