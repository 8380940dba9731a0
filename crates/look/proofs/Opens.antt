-- What opens at a literal's start. Assumes nothing.
use Rattle.std.proofs.Common.{◌≡◌, ℕ, ◌+◌, ◌<◌, true, List, [], ◌∷◌, length, get_or, sym, refl, ◌∙◌, subst, ⊎_elim, arith}
use Rattle.std.proofs.lemmas.Bool.{true≢false}
use Rattle.std.proofs.lemmas.Str.{IsCharBoundary-before_ascii}
use Rattle.std.specs.Str.{IsCharBoundary}
use Rattle.grammar.specs.Utf8.{utf8}
use Rattle.grammar.specs.Rule.{Matches}
use Rattle.grammar.specs.Reading as grammar
use Rattle.grammar.proofs.Leaves.{takes}
use Rattle.source.specs.Texts.{WellFormed}
use Rattle.source.proofs.Known.{utf8_from}
use Rattle.escapes.specs.Places.{At, Here}
use Rattle.escapes.proofs.Looks.{here}
use Rattle.escapes.proofs.Nodes.{stop}
use Rattle.pieces.specs.Pieces.{scan_of}
use Rattle.pieces.specs.declared.piece.Opening.{Opening}
use Rattle.pieces.specs.declared.piece.Opening.TheVariants.{Double, Single, Template, Resumption}
use Rattle.refusals.specs.declared.Refusal.{Refusal}
use Rattle.look.specs.Looked.{opens, opener, Refused}
use Rattle.look.specs.Units.{Opened}
use Rattle.look.specs.declared.answer.Scan.{Scan}
use Rattle.look.specs.declared.literal.Literal.{Literal}

low : (o : Opening) → opener o < 128
low Double = omega arith
low Single = omega arith
low Template = omega arith
low Resumption = omega arith

opens_by : (bs : List ℕ) (start : ℕ) (o : Opening) → Here bs start (opener o) → Matches (utf8 bs) start (grammar.opening_of (scan_of o)) (opener o ∷ []) (start + 1)
opens_by bs start Double h = (_, _, _, h.step, refl, tt, stop (utf8 bs) (start + 1))
opens_by bs start Single h = (_, _, _, h.step, refl, tt, stop (utf8 bs) (start + 1))
opens_by bs start Template h = (_, _, _, h.step, refl, tt, stop (utf8 bs) (start + 1))
opens_by bs start Resumption h = (_, _, _, h.step, refl, tt, stop (utf8 bs) (start + 1))

pub opened : (bs : List ℕ) (start : ℕ) (o : Opening) → WellFormed bs → start < length bs → get_or bs start 0 ≡ opener o → Opened bs start o
opened bs start o w l e =
    let k = low o in
    let b = IsCharBoundary-before_ascii bs start l (omega arith) in
    let h = subst (Here bs start) e (here bs start (record { text = utf8_from bs w; boundary = b }) l (omega arith)) in
    let (ls, _, y) = takes (grammar.opening_of (scan_of o)) (utf8 bs) start (opener o ∷ []) (start + 1) (opens_by bs start o h) in
    record { leaves = ls; takes = y; behind = h.behind }

pub opened_in : (l : Literal) → Opened l.inside.bytes.now l.start l.opening
opened_in l = opened l.inside.bytes.now l.start l.opening l.inside.well l.within l.opened

-- where a scan opens, nothing is refused
pub not_refused : (bs : List ℕ) (start : ℕ) (s : Scan) (e : Refusal) → Refused bs start s e → start < length bs → opens s (get_or bs start 0) ≡ true → ⊥
not_refused bs start s e r l o = ⊎_elim (λ (a, b). omega arith) (λ (a, b, c). true≢false (sym o ∙ c)) r

-- a place of a text
pub place : (bs : List ℕ) (p : ℕ) → WellFormed bs → IsCharBoundary bs p → At bs p
place bs p w b = record { text = utf8_from bs w; boundary = b }
