-- The worked examples.
use Rattle.std.proofs.Common.{[], ◌∷◌, codes, refl}
use Rattle.std.specs.Str.{chars}
use Rattle.grammar.specs.Text.{Text}
use Rattle.grammar.specs.Utf8.{utf8}
use Rattle.grammar.specs.Literal.{no_substitution}
use Rattle.grammar.specs.Reading.{double_scan}
use Rattle.grammar.specs.Worked.{SevenInATemplate, SevenInAString, NothingFromInside}
use Rattle.grammar.proofs.Finder.{find, derive, the}
use Rattle.grammar.proofs.Nothing.{no_derivation, no_reading}

pub seven_in_a_template : SevenInATemplate
unfolding chars
seven_in_a_template =
    let d = the (derive (utf8 (codes "`\\u{1100000}`")) 20 no_substitution 0) tt in
    (d.0, record { derives = d.1; starts = refl; of_kind = refl; ends = refl; valued = refl }, refl)

pub seven_in_a_string : SevenInAString
unfolding chars
seven_in_a_string = let r = the (find (utf8 (codes "\"\\u{1100000}\"")) 20 double_scan 0) tt in (r.0, r.1, refl, refl, refl, refl, refl, refl)

pub nothing_from_inside : NothingFromInside
nothing_from_inside = let t : Text = utf8 (0xE0 ∷ 0xA0 ∷ 0xA2 ∷ 0x22 ∷ []) in (no_derivation t 1 refl, no_reading t 1 refl)
