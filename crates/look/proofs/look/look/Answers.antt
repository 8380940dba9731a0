use Rattle.std.proofs.Common.{◌<◌, length, subst}
use Rattle.look.specs.Looked.{LookedAt}
use Rattle.look.proofs.Looking.{accepts}
use Rattle.look.proofs.look.look.Goals as goal

pub returns : goal.returns
returns c =
    let (e, f, o, s) = c.in_ok-find.ensures in
    let l = c.in_ok-find.field-0 in
    let n = subst (λ z. c.args.start < length z) e (subst (λ z. z < length l.inside.bytes.now) f l.within) in
    let k = subst (λ z. LookedAt z c.args.start l.opening c.look.result) e (subst (λ z. LookedAt l.inside.bytes.now z l.opening c.look.result) f c.look.ensures) in
    (n, o, (l.opening, s, k), accepts c.args.text.bytes.now c.args.start l.opening c.look.result k)
