use Rattle.std.proofs.Common.{sym, ap, ◌∙◌}
use Rattle.std.proofs.lemmas.Bool.{cond-true, lt-ltb}
use Rattle.store.specs.Held.{unit_told}
use Rattle.coding.specs.Codes.{units}
use Rattle.cuts.specs.Lists.{lists}
use Rattle.wtf8.proofs.Steps.{value_units}
use Rattle.wtf8.proofs.acts.Wtf8ValueStore.value_unit.Goals as goal

pub returns : goal.returns
returns c =
    let s = c.args.self.now in
    let b = c.in_ok-bytes.ensures in
    c.unit_at.ensures ∙ ap (λ us. unit_told us c.args.i) (ap units b.1 ∙ value_units (lists s.cuts) c.args.n) ∙ sym (cond-true _ _ _ (lt-ltb _ _ b.0))
