use Rattle.std.proofs.Common.{◌≡◌, map, take, None}
use Rattle.slots.specs.Entries.{lookup}
use Rattle.slots.specs.Slots.{told}
use Rattle.slots.proofs.map.look.Given as goal

abbrev pub invariant-loop-slot : goal.invariant-loop-slot
invariant-loop-slot g l = lookup (map told (take l.slot-index l.slots)) l.start ≡ None
