use Rattle.std.proofs.Common.{◌≡◌, Some, sym, ap, ◌∙◌, arith}
use Rattle.std.proofs.lemmas.Result.{err_from_is_err_and}
use Rattle.refusals.specs.declared.Refusal.TheVariants.{IndexPastEnd, NoEntry}
use Rattle.session.proofs.Asked.{missing, no_entry_unit, no_value_unit}
use Rattle.session.proofs.Session.unit.Goals as goal

pub returns-in_err-number : goal.returns-in_err-number
returns-in_err-number g c =
    let p = err_from_is_err_and c.from_residual.result c.from_residual.ensures.1 in
    let m = missing c.entry.result NoEntry _ _ _ _ c.ok_or.ensures.value c.in_err-number.was p.1 p.2 in
    no_entry_unit g.S.ValueStore.weight c.args.self.now (g.S.ValueStore.held c.args.store.now) c.args.start c.args.index _ m.1 (sym m.0 ∙ c.entry.ensures)

pub returns-in_err-n : goal.returns-in_err-n
returns-in_err-n g c =
    let p = err_from_is_err_and c.from_residual-in_err-n.result c.from_residual-in_err-n.ensures.1 in
    let m = missing c.in_ok-number.number IndexPastEnd _ _ _ _ c.ok_or-2.ensures.value c.in_err-n.was p.1 p.2 in
    let is : Some c.in_ok-number.number ≡ c.entry.result = grind (arith, c.in_ok-number.ensures, c.in_ok-number.was) in
    no_value_unit g.S.ValueStore.weight c.args.self.now (g.S.ValueStore.held c.args.store.now) c.args.start c.args.index _ m.1 (ap Some (sym m.0) ∙ is ∙ c.entry.ensures)
