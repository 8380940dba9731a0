use Rattle.std.proofs.Common.{◌≡◌, ◌<◌, [], ◌∷◌, length, get_or, subst, arith, rules}
use Rattle.escapes.specs.Places.{Here}
use Rattle.escapes.proofs.Looks.{at_site, here, ahead_end, no_ascii}
use Rattle.escapes.proofs.places.ascii_at.Goals as goal

pub returns-in_err-b : goal.returns-in_err-b
returns-in_err-b c =
    let h = c.get.ensures.lookup in
    rw c.from_residual.ensures (ahead_end c.args.site.bytes.now c.args.site.at ((0, 127) ∷ []) (search rules))

pub returns-in-0-to-127 : goal.returns-in-0-to-127
returns-in-0-to-127 c =
    let bs = c.args.site.bytes.now in
    let p = c.args.site.at in
    let f : (p < length bs) × (get_or bs p 0 ≡ c.in_ok-b.field-0.now) = search rules in
    subst (Here bs p) f.1 (here bs p (at_site c.args.site) f.0 (omega (arith, f.1)))

pub returns-in_default : goal.returns-in_default
returns-in_default c =
    let bs = c.args.site.bytes.now in
    let p = c.args.site.at in
    let f : (p < length bs) × (get_or bs p 0 ≡ c.in_ok-b.field-0.now) = search rules in
    no_ascii bs p (at_site c.args.site) f.0 (omega (arith, f.1))
