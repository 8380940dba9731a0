use Rattle.std.proofs.Common.{ℕ, cond, rules, tests, arith}
use Rattle.std.proofs.lemmas.Iterator.{YieldsList-from_slice, YieldsList-from_map}
use Rattle.std.proofs.lemmas.Iterator.Consumers.{sum_by_from_yields_List, fits_by_from_yields_list}
use Rattle.std.proofs.lemmas.List.Sums.{count_by-le-length}
use Rattle.survey.proofs.survey.count_stops.Goals as goal

pub sum-requires-clause-fits : goal.sum-requires-clause-fits
sum-requires-clause-fits g c =
    let stops = g.S.StopSet.stops c.args.set.now in
    let few = count_by-le-length stops c.args.bytes.now in
    fits_by_from_yields_list (λ (b : ℕ). cond (stops b) 1 0) c.args.bytes.now c.map.result _ (YieldsList-from_map _ (λ (b : ℕ). cond (stops b) 1 0) (YieldsList-from_slice c.args.bytes.now cc) c.map.ensures.closure (λ x r q k. search (rules, tests))) (omega arith)

pub returns : goal.returns
returns g c =
    let stops = g.S.StopSet.stops c.args.set.now in
    sum_by_from_yields_List (λ (b : ℕ). cond (stops b) 1 0) c.args.bytes.now c.map.result _ c.sum.ensures.ran (YieldsList-from_map _ (λ (b : ℕ). cond (stops b) 1 0) (YieldsList-from_slice c.args.bytes.now cc) c.map.ensures.closure (λ x r q k. search (rules, tests)))
