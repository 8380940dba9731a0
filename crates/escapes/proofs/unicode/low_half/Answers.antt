use Rattle.std.proofs.Common.{◌≡◌, ap, ◌∙◌, Ok, rules}
use Rattle.escapes.proofs.Behinds.{prefix_at, low_by}
use Rattle.escapes.proofs.unicode.low_half.Goals as goal

pub moved-requires : goal.moved-requires
moved-requires c =
    let s = c.begin-trial.ensures.start in
    let k = c.if-not-take_unicode_prefix.ensures.cases in
    (prefix_at c.args.cursor.bytes.now _ c.args.place.now.at _ _ (ap (λ z. z.at) s.1) (s.2 ∙ c.bytes.ensures) c.requires k.0 (c.at.ensures ∙ k.1)).2.boundary

pub returns : goal.returns
returns c =
    let s = c.begin-trial.ensures.start in
    let k = c.if-not-take_unicode_prefix.ensures.cases in
    let e : c.hex_digits.result ≡ Ok (c.in_ok-low.low, c.in_ok-low.to) = search rules in
    let (d, n) = rw c.moved.ensures.0 at (rw c.moved.ensures.1 at (rw e at c.hex_digits.ensures)) in
    low_by c.args.cursor.bytes.now _ c.args.place.now.at _ _ c.in_ok-low.low c.in_ok-low.to _ (ap (λ z. z.at) s.1) (s.2 ∙ c.bytes.ensures) c.requires k.0 (c.at.ensures ∙ k.1) d n (search rules) (search rules) (search rules)
