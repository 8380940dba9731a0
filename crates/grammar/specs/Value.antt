-- The values of a literal's characters: SV (12.9.4.2), MV (12.9.4.3), TV (12.9.6.1) and TRV (12.9.6.2), in 16-bit units. Assumes nothing.
-- `cs` are the code points that the character took, its backslash included.
use Rattle.std.specs.Prelude.{ℕ, ◌+◌, ◌-◌, ◌/◌, ◌%◌, cond, List, [], ◌∷◌, ◌++◌, drop, Some, None, Option, ◌==◌, nat_le, slice_index}
use Rattle.grammar.specs.Rule.{mv, but_last}
use Rattle.grammar.specs.Production.{LineTerminatorSequence, lf, cr, ls, ps, crlf, EscapeSequence, single_escape, non_escape, nul, legacy_octal, non_octal_decimal, hex_escape, unicode_hex4, unicode_code_point}
use Rattle.grammar.specs.Production.{Character, source_character, line_separator, paragraph_separator, dollar, escape, not_escape, line_continuation, line_terminator}

-- UTF16EncodeCodePoint ( cp ), 11.1.1: cp ≤ 0xFFFF is one code unit (a surrogate too); any other is two, ⌊(cp - 0x10000) / 0x400⌋ + 0xD800 and (cp - 0x10000) modulo 0x400 + 0xDC00
abbrev pub utf16 : ℕ → List ℕ
utf16 cp = cond (nat_le cp 0xFFFF) (cp ∷ []) (((cp - 0x10000) / 0x400 + 0xD800) ∷ ((cp - 0x10000) % 0x400 + 0xDC00) ∷ [])

-- the table of string single character escape sequences: \b 0008, \t 0009, \n 000A, \v 000B, \f 000C, \r 000D, \" 0022, \' 0027, \\ 005C
abbrev pub single_escape_value : ℕ → ℕ
single_escape_value c =
    cond (c == 0x62) 0x0008 (cond (c == 0x74) 0x0009 (cond (c == 0x6E) 0x000A (cond (c == 0x76) 0x000B (cond (c == 0x66) 0x000C (cond (c == 0x72) 0x000D c)))))

-- the SV of an EscapeSequence and of a TemplateEscapeSequence
abbrev pub escape_value : EscapeSequence → List ℕ → List ℕ
-- The SV of CharacterEscapeSequence :: SingleEscapeCharacter is the String value consisting of the code unit whose numeric value is determined by the SingleEscapeCharacter according to the table.
escape_value single_escape cs = single_escape_value (slice_index cs 1) ∷ []
-- The SV of NonEscapeCharacter :: SourceCharacter but not one of EscapeCharacter or LineTerminator is the result of performing UTF16EncodeCodePoint on the code point matched by SourceCharacter.
escape_value non_escape cs = utf16 (slice_index cs 1)
-- The SV of EscapeSequence :: 0 is the String value consisting of the code unit 0x0000 (NULL). The same of TemplateEscapeSequence :: 0.
escape_value nul cs = 0x0000 ∷ []
-- The SV of EscapeSequence :: LegacyOctalEscapeSequence is the String value consisting of the code unit whose numeric value is the MV of LegacyOctalEscapeSequence.
escape_value (legacy_octal l) cs = mv 8 (drop 1 cs) ∷ []
-- The SV of NonOctalDecimalEscapeSequence :: 8 is the String value consisting of the code unit 0x0038 (DIGIT EIGHT), and of 9 of the code unit 0x0039 (DIGIT NINE).
escape_value non_octal_decimal cs = slice_index cs 1 ∷ []
-- The SV of HexEscapeSequence :: x HexDigit HexDigit is the String value consisting of the code unit whose numeric value is the MV of HexEscapeSequence.
escape_value hex_escape cs = mv 16 (drop 2 cs) ∷ []
-- The SV of Hex4Digits :: HexDigit HexDigit HexDigit HexDigit is the String value consisting of the code unit whose numeric value is the MV of Hex4Digits.
escape_value unicode_hex4 cs = mv 16 (drop 2 cs) ∷ []
-- The SV of UnicodeEscapeSequence :: u{ CodePoint } is the result of performing UTF16EncodeCodePoint on the MV of CodePoint. (The digits are what is left without \u{ in front and } behind.)
escape_value unicode_code_point cs = utf16 (mv 16 (but_last (drop 3 cs)))

-- The TV of TemplateCharacter :: LineTerminatorSequence is the TRV of LineTerminatorSequence.
abbrev pub terminator_value : LineTerminatorSequence → List ℕ
-- The TRV of LineTerminatorSequence :: <LF> is the String value consisting of the code unit 0x000A (LINE FEED).
terminator_value lf = 0x000A ∷ []
-- <CR>: the code unit 0x000A (LINE FEED)
terminator_value cr = 0x000A ∷ []
-- <LS>: the code unit 0x2028 (LINE SEPARATOR)
terminator_value ls = 0x2028 ∷ []
-- <PS>: the code unit 0x2029 (PARAGRAPH SEPARATOR)
terminator_value ps = 0x2029 ∷ []
-- <CR> <LF>: the code unit 0x000A (LINE FEED)
terminator_value crlf = 0x000A ∷ []

-- the SV or TV of a character; none: undefined
abbrev pub character_value : Character → List ℕ → Option (List ℕ)
-- The SV of DoubleStringCharacter :: SourceCharacter but not one of " or \ or LineTerminator is the result of performing UTF16EncodeCodePoint on the code point matched by SourceCharacter.
-- The same of SingleStringCharacter, and the TV of TemplateCharacter :: SourceCharacter but not one of ` or \ or $ or LineTerminator.
character_value source_character cs = Some (utf16 (slice_index cs 0))
-- The SV of DoubleStringCharacter :: <LS> is the String value consisting of the code unit 0x2028 (LINE SEPARATOR).
character_value line_separator cs = Some (0x2028 ∷ [])
-- The SV of DoubleStringCharacter :: <PS> is the String value consisting of the code unit 0x2029 (PARAGRAPH SEPARATOR).
character_value paragraph_separator cs = Some (0x2029 ∷ [])
-- The TV of TemplateCharacter :: $ is the String value consisting of the code unit 0x0024 (DOLLAR SIGN).
character_value dollar cs = Some (0x0024 ∷ [])
-- The TV of TemplateCharacter :: \ TemplateEscapeSequence is the SV of TemplateEscapeSequence.
character_value (escape e) cs = Some (escape_value e cs)
-- The TV of TemplateCharacter :: \ NotEscapeSequence is undefined.
character_value (not_escape n) cs = None
-- The SV of DoubleStringCharacter :: LineContinuation is the empty String. The TV of LineContinuation :: \ LineTerminatorSequence is the empty String.
character_value (line_continuation l) cs = Some []
character_value (line_terminator l) cs = Some (terminator_value l)

-- The SV of DoubleStringCharacters :: DoubleStringCharacter DoubleStringCharacters is the string-concatenation of the SV of DoubleStringCharacter and the SV of DoubleStringCharacters.
-- The TV of TemplateCharacters :: TemplateCharacter TemplateCharacters is undefined if either the TV of TemplateCharacter is undefined or the TV of TemplateCharacters is undefined; otherwise their concatenation.
abbrev pub joined : Option (List ℕ) → Option (List ℕ) → Option (List ℕ)
joined None v = None
joined (Some us) None = None
joined (Some us) (Some vs) = Some (us ++ vs)
