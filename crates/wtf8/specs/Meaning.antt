-- How lists in lent bytes stand for a store of WTF-8. Assumes nothing.
use Rattle.std.specs.Prelude.{ℕ, map}
use Rattle.store.specs.Held.{Held}
use Rattle.coding.specs.Codes.{units}
use Rattle.cuts.specs.declared.lists.Cuts.{Cuts}
use Rattle.cuts.specs.Lists.{lists, opened, places_of, capacity_of}

abbrev pub held_of : Cuts ℕ → Held
held_of c = record { values = map units (lists c); draft = units (opened c); places = places_of c; capacity = capacity_of c }
