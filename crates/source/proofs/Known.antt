-- What the invariants of texts and cursors give. Assumes nothing.
use Rattle.std.proofs.Common.{◌≡◌, ℕ, ◌+◌, true, List, ◌++◌, drop, Some, IsUtf8, sym, ap, ◌∙◌, subst}
use lib.Utf8.{encode, encodes, scalar, scalars}
use Rattle.std.specs.Char.{len_utf8}
use Rattle.std.specs.Str.{IsCharBoundary, chars}
use Rattle.std.proofs.lemmas.Str.{IsUtf8-drop, scalars-chars, encodes-chars, IsCharBoundary-past_char, drop_past_char, cons_from_encodes}
use Rattle.std.proofs.lemmas.Bool.{and_parts}
use Rattle.source.specs.Texts.{WellFormed, CharAt}

pub well_from : (bs : List ℕ) → IsUtf8 bs → WellFormed bs
well_from bs u = (scalars-chars bs u, encodes-chars bs u)

pub utf8_from : (bs : List ℕ) → WellFormed bs → IsUtf8 bs
utf8_from bs w = (chars bs, (w.0, w.1))

first_scalar : (cs rest : List ℕ) (c : ℕ) → scalars cs ≡ true → encodes cs ≡ encode c ++ rest → scalar c ≡ true
first_scalar cs rest c s e =
    let k = cons_from_encodes cs rest c e in
    (and_parts (scalar c) (scalars k.0) (ap scalars (sym k.1) ∙ s)).0

-- the first character of what stands behind a boundary, and the step over it
pub char_at : (bs rest : List ℕ) (i c n : ℕ) → WellFormed bs → IsCharBoundary bs i → n ≡ len_utf8 c → drop i bs ≡ encode c ++ rest → CharAt bs i (Some (c, i + n))
char_at bs rest i c n w b k e =
    let u = IsUtf8-drop bs i (utf8_from bs w) b in
    let f : drop (i + n) bs ≡ rest = subst (λ (m : ℕ). drop (i + m) bs ≡ rest) (sym k) (drop_past_char bs rest i c e) in
    (first_scalar u.0 rest c u.1.0 (u.1.1 ∙ e), e ∙ ap (λ (r : List ℕ). encode c ++ r) (sym f), ap (λ (m : ℕ). i + m) k)

-- the place behind a character is a boundary
pub behind_char : (bs : List ℕ) (i c n : ℕ) → WellFormed bs → IsCharBoundary bs i → CharAt bs i (Some (c, n)) → IsCharBoundary bs n
behind_char bs i c n w b h =
    subst (λ (m : ℕ). IsCharBoundary bs m) (sym h.2) (IsCharBoundary-past_char bs (drop n bs) i c b.0 (IsUtf8-drop bs i (utf8_from bs w) b) h.1)
