use Rattle.std.proofs.Common.{◌≡◌, ◌+◌, ap, ◌∙◌, subst}
use Rattle.look.specs.Units.{Opened}
use Rattle.look.proofs.Opens.{opened_in, not_refused}
use Rattle.look.proofs.readers.faults_at.Goals as goal

pub returns-in-Ok : goal.returns-in-Ok
returns-in-Ok c =
    let l = c.in-Ok.literal in
    let (e, f, o, s) = c.in-Ok.ensures in
    let (k, _, i) = c.new.ensures.cursor in
    let b = subst (λ z. l.inside.place.at ≡ z + 1) f l.behind in
    record { bytes = (ap (λ z. z.bytes.now) k ∙ e, i); told = λ _ _. c.new.ensures.told (subst (λ z. Opened l.inside.bytes.now z l.opening) f (opened_in l)) b }

pub returns-in-Err-clause-told : goal.returns-in-Err-clause-told
returns-in-Err-clause-told c n o = absurd (not_refused c.args.text.bytes.now c.args.start c.args.scan _ c.in-Err.ensures n o)
