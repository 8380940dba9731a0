use Rattle.std.proofs.Common.{◌∙◌}
use Rattle.escapes.proofs.Behinds.{braces_none, braces_lift, braces_over, braces_all, braces_open}
use Rattle.escapes.proofs.unicode.braces_escape.Goals as goal

pub returns-in-Err-Missing : goal.returns-in-Err-Missing
returns-in-Err-Missing c =
    let h = rw c.in-Err-Missing.field-0-is at c.in-Err-Missing.ensures in
    rw c.place.ensures (braces_none c.args.cursor.bytes.now c.args.cursor.place.at c.args.in_template c.requires.0 c.requires.1 (rw c.ahead.ensures.0 at (rw c.ahead.ensures.1 at h)))

pub returns-in-Err-Over : goal.returns-in-Err-Over
returns-in-Err-Over c =
    let h = rw c.in-Err-Over.field-0-is at c.in-Err-Over.ensures in
    let (v, d, l) = rw c.ahead.ensures.0 at (rw c.ahead.ensures.1 at h) in
    let k = rw c.moved.ensures.0 at (rw c.moved.ensures.1 at c.skip_hex.ensures) in
    braces_over c.args.cursor.bytes.now c.args.cursor.place.at c.args.in_template v c.in-Err-Over.to c.skip_hex.result c.if-in_template.true c.requires.0 c.requires.1 d l k

pub returns-in-Err-Over-2 : goal.returns-in-Err-Over-2
returns-in-Err-Over-2 c =
    let h = rw c.in-Err-Over.field-0-is at c.in-Err-Over.ensures in
    let (v, d, l) = rw c.ahead.ensures.0 at (rw c.ahead.ensures.1 at h) in
    braces_lift c.args.cursor.bytes.now c.args.cursor.place.at c.args.in_template v c.in-Err-Over.to c.if-in_template.false c.requires.0 c.requires.1 d l

pub returns-else-not-stands_at : goal.returns-else-not-stands_at
returns-else-not-stands_at c =
    let (d, f, _) = rw c.ahead.ensures.0 at (rw c.ahead.ensures.1 at c.in-Ok.ensures) in
    let k = rw c.moved-behind.ensures.0 at (rw c.moved-behind.ensures.1 at c.if-not-stands_at.ensures) in
    braces_all c.args.cursor.bytes.now c.args.cursor.place.at c.args.in_template c.in-Ok.value c.in-Ok.to c.unicode_units.result c.requires.0 c.requires.1 d f k
    (c.unicode_units.ensures ∙ c.one_of.ensures)

pub returns-then-not-stands_at : goal.returns-then-not-stands_at
returns-then-not-stands_at c =
    let (d, f, a) = rw c.ahead.ensures.0 at (rw c.ahead.ensures.1 at c.in-Ok.ensures) in
    let k = rw c.moved-behind.ensures.0 at (rw c.moved-behind.ensures.1 at c.if-not-stands_at.ensures) in
    braces_open c.args.cursor.bytes.now c.args.cursor.place.at c.args.in_template c.in-Ok.value c.in-Ok.to c.requires.0 c.requires.1 d f a k
