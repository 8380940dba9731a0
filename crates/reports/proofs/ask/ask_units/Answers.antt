use Rattle.std.proofs.Common.{◌≡◌, ℕ, List, [], length, of_calls, vec_items}
use Rattle.std.proofs.lemmas.Result.{IfOk-weaker}
use Rattle.ledger.specs.Calls.{unit, united, says}
use Rattle.session.specs.Calls.{Carries}
use Rattle.reports.specs.Transcript.{units_told}
use Rattle.reports.proofs.Asking.{unit_is_told, each_carries}
use Rattle.reports.proofs.ask.ask_units.Goals as goal

pub ask_all-requires : goal.ask_all-requires
ask_all-requires g c = record { callable = search of_calls; answered = λ index answer below told. unit_is_told _ c.args.many index _ c.requires below (told.called []).step.0 }

pub returns : goal.returns
returns g c =
    let s = g.S.ValueStore in
    let x = c.args.session.now in
    let h = s.held c.args.store.now in
    IfOk-weaker _ _ (λ units. (length (vec_items units) ≡ c.args.many) × ((text : List ℕ) → Carries s.weight text x h (units_told c.args.start (vec_items units)) x h))
    (λ units all. (all.0, each_carries s.weight x h (λ i u. says (unit c.args.start i) (united u)) _ (λ i u told. told.lives) 0 (vec_items units) all.1))
    c.ask_all.ensures
