-- Where a scan goes on although the standard derives nothing: bad escapes of a string, and literals that break off. No production of the standard. Assumes nothing.
use Rattle.std.specs.Prelude.{[], ◌∷◌, ◌++◌}
use Rattle.grammar.specs.Rule.{only, Rule, ◌▸◌, digits, hex_digit, hex_digits, at_most, just_above, done, lookahead_not, text_over, absent}
use Rattle.grammar.specs.Production.{one_of, chars, points}

-- a bad escape of a string, by what it has taken behind the backslash: the hex digits read so far, and in braces none past the digit that lifts the value above 10FFFF
pub data BadEscape : Type 0 where
  bad_x0 bad_x1 bad_u0 bad_u1 bad_u2 bad_u3 bad_brace0 bad_brace_over bad_brace_open : BadEscape
  deriving Discrete as bad_discrete

abbrev pub bad_escape : BadEscape → Rule
-- x, no digit
bad_escape bad_x0 = one_of "x" ▸ lookahead_not hex_digits
-- x, one digit
bad_escape bad_x1 = one_of "x" ▸ hex_digit ▸ lookahead_not hex_digits
-- u, no digit and no brace
bad_escape bad_u0 = one_of "u" ▸ lookahead_not (hex_digits ++ chars "{")
-- u, one to three digits
bad_escape bad_u1 = one_of "u" ▸ hex_digit ▸ lookahead_not hex_digits
bad_escape bad_u2 = one_of "u" ▸ hex_digit ▸ hex_digit ▸ lookahead_not hex_digits
bad_escape bad_u3 = one_of "u" ▸ hex_digit ▸ hex_digit ▸ hex_digit ▸ lookahead_not hex_digits
-- u{, no digit
bad_escape bad_brace0 = one_of "u" ▸ one_of "{" ▸ lookahead_not hex_digits
-- u{ and digits up to the one that lifts the value above 10FFFF, whatever stands behind
bad_escape bad_brace_over = one_of "u" ▸ one_of "{" ▸ digits (just_above 0x10FFFF) done
-- u{ and digits of a value at most 10FFFF, with no brace behind
bad_escape bad_brace_open = one_of "u" ▸ one_of "{" ▸ digits (at_most 0x10FFFF) (lookahead_not (hex_digits ++ chars "}"))

-- how a literal breaks off
pub data Break : Type 0 where
  line_break text_end last_backslash : Break
  deriving Discrete as break_discrete

-- a string: at a raw CR or LF, of which that one character is taken; at the text's end; at a backslash that is the text's last character
abbrev pub string_break : Break → Rule
string_break line_break = only (points (0x0A ∷ 0x0D ∷ [])) ▸ done
string_break text_end = text_over
string_break last_backslash = one_of "\\" ▸ text_over

-- a template: line breaks are its characters
abbrev pub template_break : Break → Rule
template_break line_break = absent
template_break text_end = text_over
template_break last_backslash = one_of "\\" ▸ text_over
