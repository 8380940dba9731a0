use Rattle.std.proofs.Common.{cond, Ok, Err, set, sym, ap, ◌∙◌, subst}
use Rattle.store.specs.Held.{with_unit}
use Rattle.store.specs.Leaves.{PutLeaves}
use Rattle.store.proofs.Narrows.{narrow_more}
use Rattle.refusals.specs.Numbers.{numbered}
use Rattle.refusals.specs.declared.Refusal.TheVariants.{NoCapacity}
use Rattle.cuts.proofs.Putting.{by_number}
use Rattle.cuts.specs.Lists as cuts
use Rattle.units.specs.Views.{cells, ends, used, finished, meaning}
use Rattle.units.proofs.Steps.{fits_is, held_with}
use Rattle.units.proofs.acts.UnitsValueStore.put.Goals as goal

pub invariant_of-self : goal.invariant_of-self
invariant_of-self c = let s = c.args.self.now in record { small = narrow_more (cuts.used s.cuts) _ c.args.unit (cuts.has_cell s.cuts) c.ranges.unit.fits s.small c.push.ensures.cells }

pub returns-clause-answer : goal.returns-clause-answer
returns-clause-answer c = let s = c.args.self.now in ap numbered c.push.ensures.answer ∙ by_number (cuts.has_cell s.cuts) tt NoCapacity ∙ ap (λ b. cond b (Ok tt) (Err 12)) (sym (fits_is s.cuts c.args.unit))

pub returns-clause-after : goal.returns-clause-after
returns-clause-after c =
    let s = c.args.self.now in
    let e = c.push.ensures in
    held_with s.cuts c.push.new.self c.args.unit (cuts.has_cell s.cuts) e.lists.lists e.draft e.stays.places e.stays.capacity ∙ ap (λ b. cond b (with_unit (meaning s) c.args.unit) (meaning s)) (sym (fits_is s.cuts c.args.unit))

pub returns-clause-cells : goal.returns-clause-cells
returns-clause-cells c = let s = c.args.self.now in c.push.ensures.memory ∙ ap (λ b. cond b (set (cells s) (used s) c.args.unit) (cells s)) (sym (fits_is s.cuts c.args.unit))

pub returns-clause-leaves : goal.returns-clause-leaves
returns-clause-leaves c =
    let s = c.args.self.now in
    subst (λ b. PutLeaves b (finished s) (cells s) (cuts.memory c.push.new.self) (ends s) (cuts.table c.push.new.self)) (sym (fits_is s.cuts c.args.unit)) c.push.ensures.leaves
