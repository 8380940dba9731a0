use Rattle.std.proofs.Common.{◌≡◌, ℕ, List, [], length, of_calls, vec_items, sym, ap, arith}
use Rattle.std.proofs.lemmas.Result.{IfOk-weaker}
use Rattle.ledger.specs.Calls.{counted, fault_at, faulted, says}
use Rattle.faults.specs.Records.{faults_of}
use Rattle.session.specs.Calls.{Carries}
use Rattle.reports.specs.Transcript.{all_faults_told}
use Rattle.reports.proofs.Asking.{fault_is_told, each_carries, headed}
use Rattle.reports.proofs.ask.ask_faults.Goals as goal

pub ask_all-requires : goal.ask_all-requires
ask_all-requires g c =
    let count = (c.fault_count-many.ensures.called []).step.0 in
    let many : c.fault_count-many.result ≡ length (faults_of c.args.session.now.faults) = cc in
    record { callable = search of_calls; answered = λ index answer below told. fault_is_told _ index _ (omega (arith, below, many)) (told.called []).step.0 }

pub returns : goal.returns
returns g c =
    let s = g.S.ValueStore in
    let x = c.args.session.now in
    let h = s.held c.args.store.now in
    IfOk-weaker _ _ (λ faults. (text : List ℕ) → Carries s.weight text x h (all_faults_told (vec_items faults)) x h)
    (λ faults all text.
    headed s.weight text _ _ _ _ x x h h (ap counted (sym all.0)) (c.fault_count-many.ensures.lives text)
    (each_carries s.weight x h (λ i f. says (fault_at i) (faulted f)) _ (λ i f told. told.lives) 0 (vec_items faults) all.1 text))
    c.ask_all.ensures
