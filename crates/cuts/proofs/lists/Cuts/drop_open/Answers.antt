use Rattle.std.proofs.Common.{length, refl, ap, ◌∙◌, arith}
use Rattle.store.specs.Cuts.{cut, ordered}
use Rattle.cuts.proofs.Cutting.{rising_less, cut_less}
use Rattle.cuts.specs.Lists.{used, marks}
use Rattle.cuts.proofs.lists.Cuts.drop_open.Goals as goal

pub invariant_of-self : goal.invariant_of-self
invariant_of-self g c =
    let s = c.args.self.now in
    record { rising = ap (λ t. ordered 0 (marks s) (length t)) c.truncate.ensures.items ∙ rising_less (used s) (marks s) s.rising c.open_start-start.result (omega (arith, c.open_start-start.ensures)) }

pub returns-clause-lists : goal.returns-clause-lists
returns-clause-lists g c =
    let s = c.args.self.now in
    record { lists = ap (λ t. cut t 0 (marks s)) c.truncate.ensures.items ∙ cut_less (used s) (marks s) s.rising c.open_start-start.result (omega (arith, c.open_start-start.ensures)); marks = refl }
