-- Texts: well-formed UTF-8 of at most 16,777,216 bytes, and the characters in it. Assumes nothing.
use Rattle.std.specs.Prelude.{◌≡◌, ℕ, ◌+◌, ◌≤◌, true, List, ◌++◌, length, drop, Some, None, IsUtf8, Option}
use Rattle.std.proofs.Math.Utf8.{encode, encodes, scalar, scalars}
use Rattle.std.specs.Char.{len_utf8}
use Rattle.std.specs.Str.{chars}

-- the bytes are those of the Unicode scalar values that they spell: `IsUtf8` said as two equations, so that it has one proof at most
abbrev pub WellFormed : List ℕ → Type 0
WellFormed bytes = (scalars (chars bytes) ≡ true) × (encodes (chars bytes) ≡ bytes)

-- the largest number of bytes
abbrev pub limit : ℕ
limit = 16777216

-- what every text is
abbrev pub IsText : List ℕ → Type 0
IsText bytes = IsUtf8 bytes × (length bytes ≤ limit)

-- the character at a place and the place behind it, or none at the end
abbrev pub CharAt : List ℕ → ℕ → Option (ℕ × ℕ) → Type 0
CharAt bytes at None = at ≡ length bytes
CharAt bytes at (Some p) = (scalar p.0 ≡ true) × (drop at bytes ≡ encode p.0 ++ drop p.1 bytes) × (p.1 ≡ at + len_utf8 p.0)
