use Rattle.std.proofs.Common.{[], ap, ◌∙◌, subst}
use Rattle.look.specs.Units.{Gave}
use Rattle.look.proofs.Opens.{opened_in, not_refused}
use Rattle.look.proofs.readers.units_at.Goals as goal

pub returns-in-Ok : goal.returns-in-Ok
returns-in-Ok c =
    let l = c.in-Ok.literal in
    let (e, f, o, s) = c.in-Ok.ensures in
    let (k, _) = c.new.ensures.cursor in
    record { bytes = ap (λ z. z.bytes.now) k ∙ e; gave = λ _ _. subst (λ z. Gave c.new.result z []) f (c.new.ensures.gave l.start (opened_in l) l.behind) }

pub returns-in-Err-clause-gave : goal.returns-in-Err-clause-gave
returns-in-Err-clause-gave c n o = absurd (not_refused c.args.text.bytes.now c.args.start c.args.scan _ c.in-Err.ensures n o)
