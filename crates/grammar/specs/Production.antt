-- The productions of ECMA-262 for string literals (12.9.4) and template literal lexical components (12.9.6), with every lookahead. Assumes nothing.
-- The legacy escapes stand in 12.9.4 itself, where early errors bar them from strict code; this is the grammar without those early errors.
-- A type is named after a production and has a constructor for each alternative. The function below it gives each alternative's right-hand side, under the standard's own line.
-- Where two productions share a type, `absent` marks an alternative that one of them does not have.
use Rattle.std.specs.Prelude.{ℕ, List, [], ◌∷◌, ◌++◌, codes}
use Prim.Native.String.{String}
use Rattle.grammar.specs.Rule.{Span, Class, only, but, hex_digits, hex_digit, Bound, at_most, above, Rule, ◌▸◌, digits, done, lookahead_not, lookahead, absent}

-- CLASSES OF CHARACTERS

-- the characters with these numbers; those that a text writes out

abbrev pub points : List ℕ → List Span
points [] = []
points (c ∷ cs) = (c, c) ∷ points cs

abbrev pub chars : String → List Span
chars s = points (codes s)

abbrev pub this : ℕ → Class
this c = only (points (c ∷ []))

abbrev pub one_of : String → Class
one_of s = only (chars s)

-- LineTerminator :: <LF> <CR> <LS> <PS>
abbrev pub line_terminators : List Span
line_terminators = points (0x0A ∷ 0x0D ∷ 0x2028 ∷ 0x2029 ∷ [])

-- DecimalDigit :: one of 0 1 2 3 4 5 6 7 8 9
abbrev pub decimal_digits : List Span
decimal_digits = (0x30, 0x39) ∷ []

abbrev pub decimal_digit : Class
decimal_digit = only decimal_digits

-- DecimalDigit but not 0
abbrev pub decimal_digit_not_zero : Class
decimal_digit_not_zero = only ((0x31, 0x39) ∷ [])

-- OctalDigit :: one of 0 1 2 3 4 5 6 7
abbrev pub octal_digits : List Span
octal_digits = (0x30, 0x37) ∷ []

abbrev pub octal_digit : Class
octal_digit = only octal_digits

-- NonZeroOctalDigit :: OctalDigit but not 0
abbrev pub non_zero_octal_digit : Class
non_zero_octal_digit = only ((0x31, 0x37) ∷ [])

-- ZeroToThree :: one of 0 1 2 3
abbrev pub zero_to_three : Class
zero_to_three = only ((0x30, 0x33) ∷ [])

-- FourToSeven :: one of 4 5 6 7
abbrev pub four_to_seven : Class
four_to_seven = only ((0x34, 0x37) ∷ [])

-- { 8, 9 }, and NonOctalDecimalEscapeSequence :: one of 8 9
abbrev pub eight_nine : List Span
eight_nine = (0x38, 0x39) ∷ []

-- SingleEscapeCharacter :: one of ' " \ b f n r t v
abbrev pub single_escape_characters : List Span
single_escape_characters = chars "'\"\\bfnrtv"

-- EscapeCharacter :: SingleEscapeCharacter, DecimalDigit, x, u
abbrev pub escape_characters : List Span
escape_characters = single_escape_characters ++ decimal_digits ++ chars "xu"

-- NonEscapeCharacter :: SourceCharacter but not one of EscapeCharacter or LineTerminator
abbrev pub non_escape_character : Class
non_escape_character = but (escape_characters ++ line_terminators)

-- CODE POINTS IN BRACES

-- CodePoint :: HexDigits[~Sep] but only if the MV of HexDigits ≤ 0x10FFFF
abbrev pub code_point : Bound
code_point = at_most 0x10FFFF

-- NotCodePoint :: HexDigits[~Sep] but only if the MV of HexDigits > 0x10FFFF
abbrev pub not_code_point : Bound
not_code_point = above 0x10FFFF

-- LINE TERMINATORS

pub data LineTerminatorSequence : Type 0 where
  lf cr ls ps crlf : LineTerminatorSequence
  deriving Discrete as terminator_discrete

abbrev pub line_terminator_sequence : LineTerminatorSequence → Rule
-- LineTerminatorSequence :: <LF>
line_terminator_sequence lf = this 0x0A ▸ done
-- LineTerminatorSequence :: <CR> [lookahead ≠ <LF>]
line_terminator_sequence cr = this 0x0D ▸ lookahead_not (points (0x0A ∷ []))
-- LineTerminatorSequence :: <LS>
line_terminator_sequence ls = this 0x2028 ▸ done
-- LineTerminatorSequence :: <PS>
line_terminator_sequence ps = this 0x2029 ▸ done
-- LineTerminatorSequence :: <CR> <LF>
line_terminator_sequence crlf = this 0x0D ▸ this 0x0A ▸ done

-- ESCAPES

pub data LegacyOctalEscapeSequence : Type 0 where
  zero_alone one_digit two_low two_high three_digits : LegacyOctalEscapeSequence
  deriving Discrete as legacy_discrete

abbrev pub legacy_octal_escape_sequence : LegacyOctalEscapeSequence → Rule
-- LegacyOctalEscapeSequence :: 0 [lookahead ∈ { 8, 9 }]
legacy_octal_escape_sequence zero_alone = one_of "0" ▸ lookahead eight_nine
-- LegacyOctalEscapeSequence :: NonZeroOctalDigit [lookahead ∉ OctalDigit]
legacy_octal_escape_sequence one_digit = non_zero_octal_digit ▸ lookahead_not octal_digits
-- LegacyOctalEscapeSequence :: ZeroToThree OctalDigit [lookahead ∉ OctalDigit]
legacy_octal_escape_sequence two_low = zero_to_three ▸ octal_digit ▸ lookahead_not octal_digits
-- LegacyOctalEscapeSequence :: FourToSeven OctalDigit
legacy_octal_escape_sequence two_high = four_to_seven ▸ octal_digit ▸ done
-- LegacyOctalEscapeSequence :: ZeroToThree OctalDigit OctalDigit
legacy_octal_escape_sequence three_digits = zero_to_three ▸ octal_digit ▸ octal_digit ▸ done

pub data EscapeSequence : Type 0 where
  single_escape non_escape nul : EscapeSequence
  legacy_octal : LegacyOctalEscapeSequence → EscapeSequence
  non_octal_decimal hex_escape unicode_hex4 unicode_code_point : EscapeSequence
  deriving Discrete as escape_discrete

abbrev pub escape_sequence : EscapeSequence → Rule
-- EscapeSequence :: CharacterEscapeSequence, CharacterEscapeSequence :: SingleEscapeCharacter
escape_sequence single_escape = only single_escape_characters ▸ done
-- EscapeSequence :: CharacterEscapeSequence, CharacterEscapeSequence :: NonEscapeCharacter
escape_sequence non_escape = non_escape_character ▸ done
-- EscapeSequence :: 0 [lookahead ∉ DecimalDigit]
escape_sequence nul = one_of "0" ▸ lookahead_not decimal_digits
-- EscapeSequence :: LegacyOctalEscapeSequence
escape_sequence (legacy_octal l) = legacy_octal_escape_sequence l
-- EscapeSequence :: NonOctalDecimalEscapeSequence, NonOctalDecimalEscapeSequence :: one of 8 9
escape_sequence non_octal_decimal = only eight_nine ▸ done
-- EscapeSequence :: HexEscapeSequence, HexEscapeSequence :: x HexDigit HexDigit
escape_sequence hex_escape = one_of "x" ▸ hex_digit ▸ hex_digit ▸ done
-- EscapeSequence :: UnicodeEscapeSequence, UnicodeEscapeSequence :: u Hex4Digits, Hex4Digits :: HexDigit HexDigit HexDigit HexDigit
escape_sequence unicode_hex4 = one_of "u" ▸ hex_digit ▸ hex_digit ▸ hex_digit ▸ hex_digit ▸ done
-- EscapeSequence :: UnicodeEscapeSequence, UnicodeEscapeSequence :: u{ CodePoint }
escape_sequence unicode_code_point = one_of "u" ▸ one_of "{" ▸ digits code_point (one_of "}" ▸ done)

-- TemplateEscapeSequence has the alternatives of EscapeSequence but for LegacyOctalEscapeSequence and NonOctalDecimalEscapeSequence
abbrev pub template_escape_sequence : EscapeSequence → Rule
-- TemplateEscapeSequence :: CharacterEscapeSequence
template_escape_sequence single_escape = escape_sequence single_escape
template_escape_sequence non_escape = escape_sequence non_escape
-- TemplateEscapeSequence :: 0 [lookahead ∉ DecimalDigit]
template_escape_sequence nul = one_of "0" ▸ lookahead_not decimal_digits
template_escape_sequence (legacy_octal l) = absent
template_escape_sequence non_octal_decimal = absent
-- TemplateEscapeSequence :: HexEscapeSequence
template_escape_sequence hex_escape = escape_sequence hex_escape
-- TemplateEscapeSequence :: UnicodeEscapeSequence
template_escape_sequence unicode_hex4 = escape_sequence unicode_hex4
template_escape_sequence unicode_code_point = escape_sequence unicode_code_point

pub data NotEscapeSequence : Type 0 where
  zero_decimal decimal_not_zero x0 x1 u0 u1 u2 u3 brace0 brace_not_code_point brace_code_point : NotEscapeSequence
  deriving Discrete as not_escape_discrete

abbrev pub not_escape_sequence : NotEscapeSequence → Rule
-- NotEscapeSequence :: 0 DecimalDigit
not_escape_sequence zero_decimal = one_of "0" ▸ decimal_digit ▸ done
-- NotEscapeSequence :: DecimalDigit but not 0
not_escape_sequence decimal_not_zero = decimal_digit_not_zero ▸ done
-- NotEscapeSequence :: x [lookahead ∉ HexDigit]
not_escape_sequence x0 = one_of "x" ▸ lookahead_not hex_digits
-- NotEscapeSequence :: x HexDigit [lookahead ∉ HexDigit]
not_escape_sequence x1 = one_of "x" ▸ hex_digit ▸ lookahead_not hex_digits
-- NotEscapeSequence :: u [lookahead ∉ HexDigit] [lookahead ≠ {]
not_escape_sequence u0 = one_of "u" ▸ lookahead_not (hex_digits ++ chars "{")
-- NotEscapeSequence :: u HexDigit [lookahead ∉ HexDigit]
not_escape_sequence u1 = one_of "u" ▸ hex_digit ▸ lookahead_not hex_digits
-- NotEscapeSequence :: u HexDigit HexDigit [lookahead ∉ HexDigit]
not_escape_sequence u2 = one_of "u" ▸ hex_digit ▸ hex_digit ▸ lookahead_not hex_digits
-- NotEscapeSequence :: u HexDigit HexDigit HexDigit [lookahead ∉ HexDigit]
not_escape_sequence u3 = one_of "u" ▸ hex_digit ▸ hex_digit ▸ hex_digit ▸ lookahead_not hex_digits
-- NotEscapeSequence :: u { [lookahead ∉ HexDigit]
not_escape_sequence brace0 = one_of "u" ▸ one_of "{" ▸ lookahead_not hex_digits
-- NotEscapeSequence :: u { NotCodePoint [lookahead ∉ HexDigit]
not_escape_sequence brace_not_code_point = one_of "u" ▸ one_of "{" ▸ digits not_code_point (lookahead_not hex_digits)
-- NotEscapeSequence :: u { CodePoint [lookahead ∉ HexDigit] [lookahead ≠ }]
not_escape_sequence brace_code_point = one_of "u" ▸ one_of "{" ▸ digits code_point (lookahead_not (hex_digits ++ chars "}"))

-- THE CHARACTERS OF A LITERAL

-- the alternatives of DoubleStringCharacter, SingleStringCharacter and TemplateCharacter
pub data Character : Type 0 where
  source_character line_separator paragraph_separator dollar : Character
  escape : EscapeSequence → Character
  not_escape : NotEscapeSequence → Character
  line_continuation : LineTerminatorSequence → Character
  line_terminator : LineTerminatorSequence → Character
  deriving Discrete as character_discrete

-- LineContinuation :: \ LineTerminatorSequence
abbrev pub continuation : LineTerminatorSequence → Rule
continuation l = one_of "\\" ▸ line_terminator_sequence l

-- DoubleStringCharacter (quote 0x22) and SingleStringCharacter (quote 0x27)
abbrev pub string_character : ℕ → Character → Rule
-- DoubleStringCharacter :: SourceCharacter but not one of " or \ or LineTerminator
-- SingleStringCharacter :: SourceCharacter but not one of ' or \ or LineTerminator
string_character quote source_character = but (points (quote ∷ []) ++ chars "\\" ++ line_terminators) ▸ done
-- DoubleStringCharacter :: <LS>, SingleStringCharacter :: <LS>
string_character quote line_separator = this 0x2028 ▸ done
-- DoubleStringCharacter :: <PS>, SingleStringCharacter :: <PS>
string_character quote paragraph_separator = this 0x2029 ▸ done
-- DoubleStringCharacter :: \ EscapeSequence, SingleStringCharacter :: \ EscapeSequence
string_character quote (escape e) = one_of "\\" ▸ escape_sequence e
-- DoubleStringCharacter :: LineContinuation, SingleStringCharacter :: LineContinuation
string_character quote (line_continuation l) = continuation l
string_character quote dollar = absent
string_character quote (not_escape n) = absent
string_character quote (line_terminator l) = absent

abbrev pub double_string_character : Character → Rule
double_string_character c = string_character 0x22 c

abbrev pub single_string_character : Character → Rule
single_string_character c = string_character 0x27 c

abbrev pub template_character : Character → Rule
-- TemplateCharacter :: $ [lookahead ≠ {]
template_character dollar = one_of "$" ▸ lookahead_not (chars "{")
-- TemplateCharacter :: \ TemplateEscapeSequence
template_character (escape e) = one_of "\\" ▸ template_escape_sequence e
-- TemplateCharacter :: \ NotEscapeSequence
template_character (not_escape n) = one_of "\\" ▸ not_escape_sequence n
-- TemplateCharacter :: LineContinuation
template_character (line_continuation l) = continuation l
-- TemplateCharacter :: LineTerminatorSequence
template_character (line_terminator l) = line_terminator_sequence l
-- TemplateCharacter :: SourceCharacter but not one of ` or \ or $ or LineTerminator
template_character source_character = but (chars "`\\$" ++ line_terminators) ▸ done
template_character line_separator = absent
template_character paragraph_separator = absent
