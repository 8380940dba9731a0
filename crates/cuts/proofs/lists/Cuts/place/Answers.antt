use Rattle.std.proofs.Common.{◌≡◌, length, get_or, ap, ◌∙◌, arith}
use Rattle.std.proofs.lemmas.Result.{err_from_is_err_and}
use Rattle.refusals.specs.declared.Refusal.TheVariants.{IndexPastEnd}
use Rattle.store.specs.Cuts.{part}
use Rattle.store.proofs.Parts.{cut_length}
use Rattle.cuts.proofs.Cutting.{list_in, list_at}
use Rattle.cuts.specs.Lists.{used, marks}
use Rattle.cuts.proofs.lists.Cuts.place.Goals as goal

pub returns-in_err-end : goal.returns-in_err-end
returns-in_err-end g c =
    let s = c.args.self.now in
    let none = c.in_err-end.ensures.ok_part in
    let v = rw none at c.in_err-end.ensures.value in
    let w : c.in_err-end.field-0.0 ≡ IndexPastEnd = cc in
    let r = err_from_is_err_and c.from_residual.result c.from_residual.ensures.1 in
    rw r.1 (omega (arith, cut_length (used s) 0 (marks s), ap length c.as_slice.ensures, rw none at c.get.ensures.lookup.3), r.2 ∙ w)

pub returns : goal.returns
returns g c =
    let s = c.args.self.now in
    let l = ap length c.as_slice.ensures in
    let some = c.in_ok-end.ensures.ok_part in
    let lt = (rw some at c.get.ensures.lookup.3).0 in
    let e : c.in_ok-end.field-0.now ≡ get_or (marks s) c.args.n 0 = (rw some at c.get.ensures.lookup.4) (omega arith) 0 ∙ ap (λ t. get_or t c.args.n 0) c.as_slice.ensures in
    let w = list_in (used s) (marks s) s.rising c.args.n (omega (arith, lt)) in
    record {
      there = omega (arith, lt, cut_length (used s) 0 (marks s));
      up = omega (arith, w.0, c.start_of.ensures);
      inside = omega (arith, w.1);
      cells = (λ j. part (used s) (c.start_of.ensures j) (e j)) ∙ list_at (used s) (marks s) s.rising c.args.n (omega (arith, lt));
    }
