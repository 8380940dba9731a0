use Rattle.std.proofs.Common.{◌≡◌, take}
use Rattle.store.specs.Held.{holding}
use Rattle.store.proofs.whole.keep.Given as goal

abbrev pub invariant-loop-unit : goal.invariant-loop-unit
invariant-loop-unit g l = let s = g.S.ValueStore in s.held l.store ≡ holding (s.held l.initial.store) (take l.unit-index l.units)
