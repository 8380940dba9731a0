-- What is known of a literal that a scan sees. Assumes nothing.
use Rattle.std.proofs.Common.{◌≡◌, true, is_some, sym, refl, ap, ◌∙◌}
use Rattle.grammar.specs.Utf8.{utf8}
use Rattle.grammar.specs.Reading as grammar
use Rattle.grammar.specs.Reading.{Read}
use Rattle.grammar.specs.Outcome.{units_read}
use Rattle.grammar.proofs.Readings.{readings_are_one}
use Rattle.pieces.specs.Pieces.{scan_of}
use Rattle.look.specs.declared.answer.Scan.{Scan}
use Rattle.look.specs.declared.answer.Scan.TheVariants.{Str, Template, Resumption}
use Rattle.look.specs.declared.answer.Look.{Look}
use Rattle.look.specs.declared.literal.Literal.{Literal}
use Rattle.look.specs.Looked.{suits, LookedAt}
use Rattle.ledger.specs.Ledger.{sort_of, of_string}
use Rattle.ledger.proofs.Values.{string_cooked}
use Rattle.session.specs.Literals.{sort_by, IsRead}

pub sort_same : (k : Scan) (g : grammar.Scan) → suits k g ≡ true → sort_of g ≡ sort_by k
sort_same Str grammar.double_scan e = refl
sort_same Str grammar.single_scan e = refl
sort_same Str grammar.template_scan e = absurd cc
sort_same Str grammar.resumption e = absurd cc
sort_same Template grammar.double_scan e = absurd cc
sort_same Template grammar.single_scan e = absurd cc
sort_same Template grammar.template_scan e = refl
sort_same Template grammar.resumption e = absurd cc
sort_same Resumption grammar.double_scan e = absurd cc
sort_same Resumption grammar.single_scan e = absurd cc
sort_same Resumption grammar.template_scan e = absurd cc
sort_same Resumption grammar.resumption e = refl

module _ (l : Literal) (look : Look) (at : LookedAt l.inside.bytes.now l.start l.opening look) where
  pub cooked : (r : Read) → IsRead l r → is_some look.units ≡ is_some (units_read r)
  cooked r reads = at.cooked ∙ ap (λ (z : Read). is_some (units_read z)) (readings_are_one (utf8 l.inside.bytes.now) at.read r (at.from ∙ sym reads.1) at.reading reads.0)

  -- a string always is
  pub string : (k : Scan) → suits k (scan_of l.opening) ≡ true → of_string (sort_by k) ≡ true → is_some look.units ≡ true
  string k suited str =
      at.cooked ∙ ap is_some (string_cooked (utf8 l.inside.bytes.now) at.read at.reading (ap of_string (ap sort_of at.scans ∙ sort_same k (scan_of l.opening) suited) ∙ str)).1
