use Rattle.std.proofs.Common.{◌≡◌, ◌+◌, ◌++◌, min, length, take}
use Rattle.store.specs.Cuts.{laid}
use Rattle.cuts.specs.Lists.{memory, finished, opened}
use Rattle.cuts.proofs.Putting.{Behind}
use Rattle.cuts.proofs.lists.Cuts.put_behind.Given as goal

abbrev pub invariant-loop-item : goal.invariant-loop-item
invariant-loop-item g l =
    Behind l.fn.self l.self (take l.fn.kept (opened l.fn.self) ++ take l.item-index l.items)
    × (memory l.self ≡ laid (memory l.fn.self) (finished l.fn.self + min (length (opened l.fn.self)) l.fn.kept) (take l.item-index l.items))
