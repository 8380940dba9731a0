use Rattle.std.proofs.Common.{map, sym, ap, ◌∙◌}
use Rattle.std.proofs.lemmas.List.{take_all}
use Rattle.slots.specs.Entries.{lookup}
use Rattle.slots.specs.Slots.{told}
use Rattle.slots.proofs.Looks.{missed, hit}
use Rattle.slots.proofs.map.look.Goals as goal

pub loop-slot-preserved : goal.loop-slot-preserved
loop-slot-preserved g c = missed _ c.loop-slot.slot-index c.args.start c.slot-item.result c.loop-slot-test.true c.slot-item.is c.if-slot-start.false c.loop-slot.invariant

pub returns-then-slot-start : goal.returns-then-slot-start
returns-then-slot-start g c = hit _ c.loop-slot.slot-index c.args.start c.slot-item.result c.loop-slot-test.true c.slot-item.is c.if-slot-start.true c.loop-slot.invariant

pub returns : goal.returns
returns g c = sym c.loop-slot.invariant ∙ ap (λ ys. lookup (map told ys) c.args.start) (take_all _ _ c.loop-slot-test.false)
