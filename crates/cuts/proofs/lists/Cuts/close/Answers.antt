use Rattle.std.proofs.Common.{[], ◌∷◌, ◌++◌, cond, ltb, length, set, refl, sym, ap, ◌∙◌, arith}
use Rattle.lent.specs.Items.{free}
use Rattle.store.proofs.Parts.{cut_length}
use Rattle.cuts.proofs.Cutting.{closed_rising, closed_lists, closed_open, front_kept}
use Rattle.cuts.proofs.Cells.{used_is}
use Rattle.cuts.specs.Lists.{used, marks, table, lists, opened, places_of}
use Rattle.cuts.proofs.lists.Cuts.close.Goals as goal

pub invariant_of-self : goal.invariant_of-self
invariant_of-self g c =
    let s = c.args.self.now in
    record { rising = closed_rising (used s) (marks s) s.rising _ c.len-end.result c.len-end.ensures.number (free s.ends) c.push.ensures.items }

pub returns-clause-lists : goal.returns-clause-lists
returns-clause-lists g c =
    let s = c.args.self.now in
    closed_lists (used s) (marks s) s.rising _ c.len-end.result c.len-end.ensures.number (free s.ends) c.push.ensures.items ∙ ap (λ n. cond (ltb n (places_of s)) (lists s ++ (opened s ∷ [])) (lists s)) (sym (cut_length (used s) 0 (marks s)))

pub returns-clause-draft : goal.returns-clause-draft
returns-clause-draft g c =
    let s = c.args.self.now in
    closed_open (used s) (marks s) s.rising _ c.len-end.result c.len-end.ensures.number (free s.ends) c.push.ensures.items ∙ ap (λ n. cond (ltb n (places_of s)) [] (opened s)) (sym (cut_length (used s) 0 (marks s)))

pub returns-clause-table : goal.returns-clause-table
returns-clause-table g c =
    let s = c.args.self.now in
    let e = c.len-end.ensures.number ∙ used_is s in
    c.push.ensures.memory ∙ (λ j. cond (ltb (sym (cut_length (used s) 0 (marks s)) j) (places_of s)) (set (table s) s.ends.used (e j)) (table s))

pub returns-clause-leaves : goal.returns-clause-leaves
returns-clause-leaves g c =
    let s = c.args.self.now in
    record {
      same_cells = refl;
      refused = λ k. c.push.ensures.refused (ap (λ n. ltb n (places_of s)) (sym (cut_length (used s) 0 (marks s))) ∙ k);
      same_values = front_kept (table s) _ (c.len-end.result ∷ []) s.ends.used _ (length (lists s)) (omega (arith, cut_length (used s) 0 (marks s))) (free s.ends) c.push.ensures.items;
      past = c.push.ensures.past;
    }
