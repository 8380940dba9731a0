-- What stands at a place of a text, in the grammar's words. Assumes nothing.
use Rattle.std.specs.Prelude.{◌≡◌, ℕ, ◌+◌, ◌<◌, true, List, [], ◌∷◌, ◌++◌, length, drop, Some, None, IsUtf8, Option, slice_index_or}
use Rattle.std.proofs.Math.Utf8.{encode}
use Rattle.std.specs.Char.{len_utf8}
use Rattle.std.specs.Str.{IsCharBoundary}
use Rattle.grammar.specs.Text.{char}
use Rattle.grammar.specs.Utf8.{utf8}
use Rattle.grammar.specs.Rule.{Ahead, but}

-- a place of a text: a character boundary
pub record At (bs : List ℕ) (p : ℕ) : Type 0 where
  pub text : IsUtf8 bs
  pub boundary : IsCharBoundary bs p

-- a character stands at p, and the next place is q
pub record Stands (bs : List ℕ) (p c q : ℕ) : Type 0 where
  pub at : At bs p
  pub spelt : drop p bs ≡ encode c ++ drop q bs
  pub step : utf8 bs p ≡ char c q
  pub behind : At bs q
  pub moves : q ≡ p + len_utf8 c
  pub small : c < 1114112

-- the same of ASCII
pub record Here (bs : List ℕ) (p c : ℕ) : Type 0 where
  pub at : At bs p
  pub byte : slice_index_or bs p 0 ≡ c
  pub step : utf8 bs p ≡ char c (p + 1)
  pub low : c < 128
  pub within : p < length bs
  pub behind : At bs (p + 1)

abbrev pub AsciiAt : List ℕ → ℕ → Option ℕ → Type 0
AsciiAt bs p None = Ahead (utf8 bs p) (but ((0, 127) ∷ [])) true
AsciiAt bs p (Some b) = Here bs p b
