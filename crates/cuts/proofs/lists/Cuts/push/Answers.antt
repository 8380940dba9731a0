use Rattle.std.proofs.Common.{◌∷◌, [], refl}
use Rattle.lent.specs.Items.{free}
use Rattle.cuts.proofs.Cutting.{start_in, grown_rising, grown_lists, grown_open, front_kept}
use Rattle.cuts.specs.Lists.{used, marks, finished, memory}
use Rattle.cuts.proofs.lists.Cuts.push.Goals as goal

pub invariant_of-self : goal.invariant_of-self
invariant_of-self g c =
    let s = c.args.self.now in
    record { rising = grown_rising (used s) (marks s) s.rising _ (c.args.item ∷ []) (free s.cells) c.push.ensures.items }

pub returns-clause-draft : goal.returns-clause-draft
returns-clause-draft g c = let s = c.args.self.now in grown_open (used s) (marks s) s.rising _ (c.args.item ∷ []) (free s.cells) c.push.ensures.items

pub returns-clause-lists : goal.returns-clause-lists
returns-clause-lists g c = let s = c.args.self.now in record { lists = grown_lists (used s) (marks s) s.rising _ (c.args.item ∷ []) (free s.cells) c.push.ensures.items; marks = refl }

pub returns-clause-leaves : goal.returns-clause-leaves
returns-clause-leaves g c =
    let s = c.args.self.now in
    record {
      same_places = refl;
      refused = c.push.ensures.refused;
      same_values = front_kept (memory s) _ (c.args.item ∷ []) s.cells.used _ (finished s) (start_in (used s) (marks s) s.rising) (free s.cells) c.push.ensures.items;
      past = c.push.ensures.past;
    }
