-- A literal's reading, and the sort of its scan. Assumes nothing.
use Rattle.std.specs.Prelude.{◌≡◌}
use Rattle.grammar.specs.Utf8.{utf8}
use Rattle.grammar.specs.Reading.{Read, Reading}
use Rattle.look.specs.declared.literal.Literal.{Literal}
use Rattle.look.specs.declared.answer.Scan.{Scan}
use Rattle.look.specs.declared.answer.Scan.TheVariants.{Str, Template, Resumption}
use Rattle.ledger.specs.Calls.{Sort, string, template, resumption}

abbrev pub sort_by : Scan → Sort
sort_by Str = string
sort_by Template = template
sort_by Resumption = resumption

-- r is the reading of a literal
abbrev pub IsRead : Literal → Read → Type 0
IsRead l r = Reading (utf8 l.inside.bytes.now) r × (r.from ≡ l.start)
