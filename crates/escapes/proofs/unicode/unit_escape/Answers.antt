use Rattle.std.proofs.Common.{◌∙◌, rules}
use Rattle.escapes.proofs.Behinds.{unit_all, unit_short, unit_pair, utf16_unit, same_err}
use Rattle.escapes.proofs.unicode.unit_escape.Goals as goal

pub returns-in_err-high : goal.returns-in_err-high
returns-in_err-high c m =
    let (v, d, l, a) = rw c.ahead.ensures.0 at (rw c.ahead.ensures.1 at c.in_err-high.ensures) in
    rw (same_err c.from_residual.result _ c.from_residual.ensures.1) (unit_short c.args.cursor.bytes.now c.args.cursor.place.at m v _ c.requires.0 c.requires.1 d l a)

pub returns-then-not-matches : goal.returns-then-not-matches
returns-then-not-matches c m =
    let (d, l) = rw c.ahead.ensures.0 at (rw c.ahead.ensures.1 at c.in_ok-high.ensures) in
    unit_all c.args.cursor.bytes.now c.args.cursor.place.at m c.in_ok-high.high c.in_ok-high.to c.unicode_units.result c.requires.0 d l
    (rw c.from.ensures at (c.unicode_units.ensures ∙ c.one_of.ensures) ∙ utf16_unit c.in_ok-high.high (search rules))

pub returns-in-None : goal.returns-in-None
returns-in-None c m =
    let (d, l) = rw c.ahead.ensures.0 at (rw c.ahead.ensures.1 at c.in_ok-high.ensures) in
    unit_all c.args.cursor.bytes.now c.args.cursor.place.at m c.in_ok-high.high c.in_ok-high.to c.unicode_units.result c.requires.0 d l
    (rw c.from.ensures at (c.unicode_units.ensures ∙ c.one_of.ensures) ∙ utf16_unit c.in_ok-high.high (search rules))

pub returns-in-Some : goal.returns-in-Some
returns-in-Some c m =
    let (d, l) = rw c.ahead.ensures.0 at (rw c.ahead.ensures.1 at c.in_ok-high.ensures) in
    unit_pair c.args.cursor.bytes.now c.args.cursor.place.at m c.in_ok-high.high c.in_ok-high.to c.in-Some.low _ c.unicode_units-in-Some.result c.requires.0 d l c.in-Some.ensures
    (c.unicode_units-in-Some.ensures ∙ c.pair_of.ensures)
