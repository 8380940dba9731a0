use Rattle.std.proofs.Common.{sym, ◌∙◌}
use Rattle.std.proofs.lemmas.Result.{err_from_is_err_and}
use Rattle.refusals.specs.declared.Refusal.TheVariants.{NoEntry}
use Rattle.session.proofs.Asked.{missing, no_entry}
use Rattle.session.proofs.Session.value.Goals as goal

pub returns-in_err-number : goal.returns-in_err-number
returns-in_err-number g c =
    let p = err_from_is_err_and c.from_residual.result c.from_residual.ensures.1 in
    let m = missing c.entry.result NoEntry _ _ _ _ c.ok_or.ensures.value c.in_err-number.was p.1 p.2 in
    no_entry g.S.ValueStore.weight c.args.self.now (g.S.ValueStore.held c.args.store.now) c.args.start _ m.1 (sym m.0 ∙ c.entry.ensures)
