use Rattle.std.proofs.Common.{rules, ◌≡◌, ◌+◌, ◌&&◌, refl, ap}
use Rattle.look.proofs.Looking.{looked_at}
use Rattle.look.proofs.literal.Literal.look.Goals as goal

pub returns : goal.returns
returns c =
    let l = c.args.self in
    let r = c.run-run.result in
    let u = c.units_to_store-units.ensures in
    let f : c.from.result ≡ c.end_faults.result = search rules in
    looked_at l.inside.bytes.now l.start l.opening r c.end_faults.result _ c.run-run.ensures c.end_faults.ensures.due
    (record { starts = refl; ends = refl; kinded = c.kind_of-kind.ensures; marked = ap (λ z. z && r.tally.marked) c.is_terminated.ensures; faulted = ap (λ z. r.tally.faults + z) f; cooked = u.cooked; stored = u.stored })
