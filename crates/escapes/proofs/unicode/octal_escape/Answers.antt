use Rattle.std.proofs.Common.{rules}
use Rattle.escapes.proofs.Behinds.{octal_one, octal_high, octal_low, octal_three}
use Rattle.escapes.proofs.unicode.octal_escape.Goals as goal

pub returns-in_default : goal.returns-in_default
returns-in_default c =
    let h = rw c.ahead.ensures.0 at (rw c.ahead.ensures.1 at c.in_default.ensures.digit_at) in
    rw c.place-at.ensures (rw c.from.ensures (octal_one c.args.cursor.bytes.now c.args.cursor.place.at c.args.first c.requires.0 c.requires.1.1 h))

pub returns-then-first-gt-FIRST_OF_THREE : goal.returns-then-first-gt-FIRST_OF_THREE
returns-then-first-gt-FIRST_OF_THREE c =
    let h = rw c.ahead.ensures.0 at (rw c.ahead.ensures.1 at c.in-Some.ensures.digit_at) in
    rw c.place-at.ensures (rw c.from-two.ensures (octal_high c.args.cursor.bytes.now c.args.cursor.place.at c.args.first c.in-Some.second c.requires.0 (search rules) h))

pub returns-in-None : goal.returns-in-None
returns-in-None c =
    let h = rw c.ahead.ensures.0 at (rw c.ahead.ensures.1 at c.in-Some.ensures.digit_at) in
    let k = rw c.ahead-2.ensures.0 at (rw c.ahead-2.ensures.1 at c.in-None.ensures.digit_at) in
    rw c.place-at.ensures (rw c.from-two.ensures (octal_low c.args.cursor.bytes.now c.args.cursor.place.at c.args.first c.in-Some.second c.requires.0 (search rules) h k))

pub returns-in-Some-octal_at : goal.returns-in-Some-octal_at
returns-in-Some-octal_at c =
    let h = rw c.ahead.ensures.0 at (rw c.ahead.ensures.1 at c.in-Some.ensures.digit_at) in
    let k = rw c.ahead-2.ensures.0 at (rw c.ahead-2.ensures.1 at c.in-Some-octal_at.ensures.digit_at) in
    rw c.place-at.ensures
    (rw c.from-two.ensures
    (rw c.from-in-Some-octal_at.ensures
    (octal_three c.args.cursor.bytes.now c.args.cursor.place.at c.args.first c.in-Some.second c.in-Some-octal_at.third c.requires.0 (search rules) h k)))
