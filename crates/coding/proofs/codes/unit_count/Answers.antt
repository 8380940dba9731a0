use Rattle.std.proofs.Common.{◌∙◌, rules, tests, arith}
use Rattle.std.proofs.lemmas.Iterator.{YieldsList-from_slice, YieldsList-from_map}
use Rattle.std.proofs.lemmas.Iterator.Consumers.{sum_by_from_yields_List, fits_by_from_yields_list}
use Rattle.coding.specs.Read.{begins}
use Rattle.coding.proofs.Steps.{units_few, units_counted}
use Rattle.coding.proofs.codes.unit_count.Goals as goal

pub sum-requires-clause-fits : goal.sum-requires-clause-fits
sum-requires-clause-fits c =
    fits_by_from_yields_list begins c.args.bytes.now c.map.result _ (YieldsList-from_map _ begins (YieldsList-from_slice c.args.bytes.now cc) c.map.ensures.closure (λ x r q k. search (rules, tests))) (omega (arith, units_few c.args.bytes.now, units_counted c.args.bytes.now))

pub returns : goal.returns
returns c =
    sum_by_from_yields_List begins c.args.bytes.now c.map.result _ c.sum.ensures.ran (YieldsList-from_map _ begins (YieldsList-from_slice c.args.bytes.now cc) c.map.ensures.closure (λ x r q k. search (rules, tests)))
    ∙ units_counted c.args.bytes.now
