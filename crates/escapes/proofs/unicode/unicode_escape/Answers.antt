use Rattle.escapes.proofs.unicode.unicode_escape.Goals as goal

pub returns-else-stands_at : goal.returns-else-stands_at
returns-else-stands_at c = c.unit_escape.ensures c.args.in_template
