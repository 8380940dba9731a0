-- What a look at a literal answers. Assumes nothing.
use Rattle.std.specs.Prelude.{◌≡◌, ℕ, ◌<◌, ◌≤◌, Bool, true, false, ◌||◌, ◌⊎◌, ◌↔◌, List, length, is_some, unwrap_or, Some, None, Ok, Err, Option, Result, ◌==◌, slice_index}
use Rattle.refusals.specs.Numbers.{number_of}
use Rattle.refusals.specs.declared.Refusal.{Refusal}
use Rattle.grammar.specs.Utf8.{utf8}
use Rattle.grammar.specs.Literal as literal
use Rattle.grammar.specs.Reading as grammar
use Rattle.grammar.specs.Outcome.{kind_read, end_read, mark_read, faults_read, units_read, entry_read}
use Rattle.tokens.specs.Grammar.{named}
use Rattle.look.specs.declared.answer.Scan.{Scan}
use Rattle.look.specs.declared.answer.Scan.TheVariants.{Str, Template, Resumption}
use Rattle.look.specs.declared.answer.Look.{Look}
use Rattle.pieces.specs.Pieces.{scan_of}
use Rattle.pieces.specs.declared.piece.Opening as opening
use Rattle.pieces.specs.declared.piece.Opening.{Opening}
use Rattle.tokens.specs.declared.Kind as kind
use Rattle.tokens.specs.declared.Kind.{Kind}

-- the bytes that open a scan: either quote; a backtick; a closing brace
abbrev pub opens : Scan → ℕ → Bool
opens Str b = b == 0x22 || b == 0x27
opens Template b = b == 0x60
opens Resumption b = b == 0x7D

-- the scans of the grammar that it can be
abbrev pub suits : Scan → grammar.Scan → Bool
suits Str grammar.double_scan = true
suits Str grammar.single_scan = true
suits Str grammar.template_scan = false
suits Str grammar.resumption = false
suits Template grammar.double_scan = false
suits Template grammar.single_scan = false
suits Template grammar.template_scan = true
suits Template grammar.resumption = false
suits Resumption grammar.double_scan = false
suits Resumption grammar.single_scan = false
suits Resumption grammar.template_scan = false
suits Resumption grammar.resumption = true

-- how many units an entry would store
abbrev pub stored : Option (Option (List ℕ)) → ℕ
stored None = 0
stored (Some None) = 0
stored (Some (Some us)) = length us

-- the byte of an opening
abbrev pub opener : Opening → ℕ
opener opening.TheVariants.Double = 0x22
opener opening.TheVariants.Single = 0x27
opener opening.TheVariants.Template = 0x60
opener opening.TheVariants.Resumption = 0x7D

-- every kind but Undetermined
abbrev pub terminated : Kind → Bool
terminated kind.TheVariants.Undetermined = false
terminated kind.TheVariants.Str = true
terminated kind.TheVariants.NoSubstitutionTemplate = true
terminated kind.TheVariants.TemplateHead = true
terminated kind.TheVariants.TemplateMiddle = true
terminated kind.TheVariants.TemplateTail = true

-- there is a reading from the start, and the look tells its token and counts
pub record LookedAt (bs : List ℕ) (start : ℕ) (o : Opening) (l : Look) : Type 0 where
  pub read : grammar.Read
  pub reading : grammar.Reading (utf8 bs) read
  pub from : read.from ≡ start
  pub scans : read.scan ≡ scan_of o
  pub starts : l.token.start ≡ start
  pub ends : l.token.end ≡ end_read read
  pub kinded : l.token.kind ≡ named (kind_read read)
  pub marked : l.token.escaped ≡ mark_read read
  pub faulted : l.faults ≡ length (faults_read read)
  pub cooked : is_some l.units ≡ is_some (units_read read)
  pub counted : unwrap_or l.units 0 ≡ stored (entry_read read)

-- of a scan that suits
abbrev pub Looked : List ℕ → ℕ → Scan → Look → Type 0
Looked bs start s l = (o : Opening) × (suits s (scan_of o) ≡ true) × LookedAt bs start o l

-- it accepts a kind with an end exactly when ECMA-262 derives that kind from the start to that end
abbrev pub Accepts : List ℕ → ℕ → Look → Type 0
Accepts bs start l =
    (k : literal.Kind) (e : ℕ) → ((l.faults ≡ 0) × (l.token.kind ≡ named (Some k)) × (l.token.end ≡ e)) ↔ ((u : Option (List ℕ)) × literal.Derivable (utf8 bs) start k e u)

-- refused with 3 exactly past the end, else with 4 exactly at a byte that does not open the scan
abbrev pub Refused : List ℕ → ℕ → Scan → Refusal → Type 0
Refused bs start s e = ((number_of e ≡ 3) × (length bs ≤ start)) ⊎ ((number_of e ≡ 4) × (start < length bs) × (opens s (slice_index bs start) ≡ false))

-- refused, or else something opens there and the look at it is told
abbrev pub Answered : List ℕ → ℕ → Scan → Result Look Refusal → Type 0
Answered bs start s (Ok l) = (start < length bs) × (opens s (slice_index bs start) ≡ true) × Looked bs start s l × Accepts bs start l
Answered bs start s (Err e) = Refused bs start s e
