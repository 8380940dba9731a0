-- UTF-8 bytes as a text: places are byte offsets. It has meaning for well-formed bytes (std's `IsUtf8`). Assumes nothing.
-- At the end, past it, and inside a character (at a byte 80 to BF) no character stands, so nothing is derived from there.
use Rattle.std.specs.Prelude.{◌≡◌, ℕ, ◌+◌, ◌<◌, ◌≤◌, Bool, true, cond, not, ◌&&◌, List, [], ◌∷◌, ◌++◌, length, drop, IsUtf8, nat_le, slice_index}
use Rattle.std.proofs.Math.Utf8.{encode, scalar}
use Rattle.std.specs.Char.{len_utf8}
use Rattle.std.specs.Str.{IsCharBoundary, chars}
use Rattle.grammar.specs.Text.{Spot, over, char, Text}

-- a byte that begins a character: it is none of 80 to BF
abbrev pub leads : ℕ → Bool
leads b = not (nat_le 0x80 b && nat_le b 0xBF)

-- the first of some characters, at a place
abbrev pub first_of : ℕ → List ℕ → Spot
first_of p [] = over
first_of p (c ∷ cs) = char c (p + len_utf8 c)

abbrev pub utf8 : List ℕ → Text
utf8 bs p = cond (leads (slice_index bs p)) (first_of p (chars (drop p bs))) over

-- what is known of a character that stands in well-formed bytes
pub record Standing (bs : List ℕ) (p c q : ℕ) : Type 0 where
  pub within : p < length bs
  pub begins : IsCharBoundary bs p
  pub further : p < q
  pub inside : q ≤ length bs
  pub ends : IsCharBoundary bs q
  pub wide : q ≡ p + len_utf8 c
  pub spelt : drop p bs ≡ encode c ++ drop q bs
  pub small : c < 0x110000
  pub value : scalar c ≡ true

abbrev pub CharactersStand : Type 0
CharactersStand = (bs : List ℕ) (p c q : ℕ) → IsUtf8 bs → utf8 bs p ≡ char c q → Standing bs p c q

-- and where a character is spelt out at a boundary, the text has it
abbrev pub SpeltStand : Type 0
SpeltStand = (bs : List ℕ) (p c : ℕ) → IsUtf8 bs → IsCharBoundary bs p → drop p bs ≡ encode c ++ drop (p + len_utf8 c) bs → utf8 bs p ≡ char c (p + len_utf8 c)

-- nothing stands at the end or past it, or at a place that is no boundary
abbrev pub NothingPast : Type 0
NothingPast = (bs : List ℕ) (p : ℕ) → length bs ≤ p → utf8 bs p ≡ over

abbrev pub NothingInside : Type 0
NothingInside = (bs : List ℕ) (p : ℕ) → (IsCharBoundary bs p → ⊥) → utf8 bs p ≡ over
