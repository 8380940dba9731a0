-- What the readers of digits answer. Assumes nothing.
use Rattle.std.specs.Prelude.{◌≡◌, ℕ, ◌+◌, ◌<◌, Bool, true, false, T, List, length, Some, None, Option, Ok, Err, Result}
use Rattle.grammar.specs.Utf8.{utf8}
use Rattle.grammar.specs.Rule.{Span, Ahead, but, only, member, hex_digits, digit, Run, mv, just_above, meets}
use Rattle.grammar.specs.Production.{code_point, decimal_digit, decimal_digits}
use Rattle.escapes.specs.Places.{At, Here}
use Rattle.escapes.specs.declared.digits.HexDigits.{HexDigits}
use Rattle.escapes.specs.declared.digits.NoCodePoint.{NoCodePoint}
use Rattle.escapes.specs.declared.digits.NoCodePoint.TheVariants.{Missing, Over}
use Rattle.escapes.specs.declared.unicode.Invalid.{Invalid}

-- a digit of a class stands at p, with value v; or none does
pub record Digit (ss : List Span) (bs : List ℕ) (p v : ℕ) : Type 0 where
  pub char : ℕ
  pub here : Here bs p char
  pub belongs : T (member char (only ss))
  pub value : v ≡ digit char

abbrev pub DigitAt : List Span → List ℕ → ℕ → Option ℕ → Type 0
DigitAt ss bs p None = Ahead (utf8 bs p) (but ss) true
DigitAt ss bs p (Some v) = Digit ss bs p v

-- whether a decimal digit stands at p
abbrev pub DecimalAt : List ℕ → ℕ → Bool → Type 0
DecimalAt bs p true = (c : ℕ) × Here bs p c × T (member c decimal_digit)
DecimalAt bs p false = Ahead (utf8 bs p) (but decimal_digits) true

-- hex digits from p to q, with value v
pub record Digits (bs : List ℕ) (p v q : ℕ) : Type 0 where
  pub chars : List ℕ
  pub run : Run (utf8 bs) p chars q
  pub value : v ≡ mv 16 chars
  pub behind : At bs q
  pub moves : q ≡ p + length chars

-- the next of the digits is taken, or none stands there, and the reader stays
abbrev pub TakesHex : HexDigits → Option ℕ → HexDigits → Type 0
TakesHex r None s = (s.site.bytes.now ≡ r.site.bytes.now) × (s.site.at ≡ r.site.at) × Ahead (utf8 r.site.bytes.now r.site.at) (but hex_digits) true
TakesHex r (Some v) s = (s.site.bytes.now ≡ r.site.bytes.now) × (s.site.at ≡ r.site.at + 1) × Digit hex_digits r.site.bytes.now r.site.at v × (v < 16)

-- n of them, or fewer with no other behind
abbrev pub HexRead : List ℕ → ℕ → ℕ → Result (ℕ × ℕ) Invalid → Type 0
HexRead bs p n (Ok r) = (d : Digits bs p r.0 r.1) × (length d.chars ≡ n)
HexRead bs p n (Err e) = (v : ℕ) × (d : Digits bs p v e.next) × (length d.chars < n) × Ahead (utf8 bs e.next) (but hex_digits) true

-- all the digits there, if they make a code point; none; or those up to the one that lifts the value above 10FFFF
abbrev pub CodePointRead : List ℕ → ℕ → Result (ℕ × ℕ) NoCodePoint → Type 0
CodePointRead bs p (Ok r) = (d : Digits bs p r.0 r.1) × T (meets code_point d.chars) × Ahead (utf8 bs r.1) (but hex_digits) true
CodePointRead bs p (Err Missing) = Ahead (utf8 bs p) (but hex_digits) true
CodePointRead bs p (Err (Over q)) = (v : ℕ) × (d : Digits bs p v q) × T (meets (just_above 0x10FFFF) d.chars)

-- all the digits there
abbrev pub Skipped : List ℕ → ℕ → ℕ → Type 0
Skipped bs p q = (v : ℕ) × Digits bs p v q × Ahead (utf8 bs q) (but hex_digits) true
