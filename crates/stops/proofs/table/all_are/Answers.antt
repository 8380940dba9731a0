use Rattle.std.proofs.Common.{◌+◌, ◌-◌, Bool, take, drop, ◌∙◌, rules, tests}
use Rattle.std.specs.Bool.{beq}
use Rattle.std.proofs.lemmas.Iterator.{YieldsList-from_slice}
use Rattle.std.proofs.lemmas.Iterator.Search.{all_from_yields_List}
use Rattle.stops.proofs.Entries.{range_alone}
use Rattle.stops.proofs.table.all_are.Goals as goal

pub returns : goal.returns
returns c =
    all_from_yields_List (λ (x : Bool). beq x c.args.want) _ _ _ c.all.ensures.ran
    (YieldsList-from_slice (take (c.args.to + 1 - c.args.from) (drop c.args.from c.args.pattern.now)) cc) (λ x b q k. search (rules, tests))
    ∙ range_alone c.args.from c.args.to c.args.want c.args.pattern.now c.requires.0 (search rules)
