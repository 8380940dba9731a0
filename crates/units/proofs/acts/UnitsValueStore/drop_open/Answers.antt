use Rattle.std.proofs.Common.{ap, ◌∙◌}
use Rattle.store.specs.Cuts.{narrow}
use Rattle.store.proofs.Narrows.{narrow_less}
use Rattle.cuts.specs.Lists.{used}
use Rattle.units.specs.Views.{finished}
use Rattle.units.proofs.acts.UnitsValueStore.drop_open.Goals as goal

pub invariant_of-self : goal.invariant_of-self
invariant_of-self c = let s = c.args.self.now in record { small = ap narrow c.drop_open.ensures.cells ∙ narrow_less (finished s) (used s.cuts) s.small }
