-- The table of the standard's characters: two derivations part nowhere.
use Rattle.std.proofs.Common.{◌≡◌, Bool, T, List, [], ◌∷◌}
use Rattle.grammar.specs.Production.{lf, cr, ls, ps, crlf, zero_alone, one_digit, two_low, two_high, three_digits}
use Rattle.grammar.specs.Production.{single_escape, non_escape, nul, legacy_octal, non_octal_decimal, hex_escape, unicode_hex4, unicode_code_point}
use Rattle.grammar.specs.Production.{zero_decimal, decimal_not_zero, x0, x1, u0, u1, u2, u3, brace0, brace_not_code_point, brace_code_point}
use Rattle.grammar.specs.Production.{Character, source_character, line_separator, paragraph_separator, dollar, escape, not_escape, line_continuation, line_terminator}
use Rattle.grammar.specs.Production.{character_discrete, escape_discrete, legacy_discrete, not_escape_discrete, terminator_discrete}
use Rattle.grammar.specs.Literal.{Body, double, single, template, character_rule, Production, double_string, single_string, no_substitution, head, middle, tail, body_of, closing}
use Rattle.grammar.proofs.Listing.{every, is_in, every_at, Listing}
use Rattle.grammar.proofs.Table.{Clear, Ends}

abbrev pub character_same : (c d : Character) → Dec (c ≡ d)
character_same = character_discrete (escape_discrete legacy_discrete) not_escape_discrete terminator_discrete

abbrev pub all_characters : List Character
all_characters =
    source_character ∷ line_separator ∷ paragraph_separator ∷ dollar ∷ escape single_escape ∷ escape non_escape ∷ escape nul
    ∷ escape (legacy_octal zero_alone) ∷ escape (legacy_octal one_digit) ∷ escape (legacy_octal two_low) ∷ escape (legacy_octal two_high) ∷ escape (legacy_octal three_digits)
    ∷ escape non_octal_decimal ∷ escape hex_escape ∷ escape unicode_hex4 ∷ escape unicode_code_point
    ∷ not_escape zero_decimal ∷ not_escape decimal_not_zero ∷ not_escape x0 ∷ not_escape x1 ∷ not_escape u0 ∷ not_escape u1 ∷ not_escape u2 ∷ not_escape u3
    ∷ not_escape brace0 ∷ not_escape brace_not_code_point ∷ not_escape brace_code_point
    ∷ line_continuation lf ∷ line_continuation cr ∷ line_continuation ls ∷ line_continuation ps ∷ line_continuation crlf
    ∷ line_terminator lf ∷ line_terminator cr ∷ line_terminator ls ∷ line_terminator ps ∷ line_terminator crlf ∷ []

character_listed : (c : Character) → T (is_in character_same c all_characters)
character_listed source_character = tt
character_listed line_separator = tt
character_listed paragraph_separator = tt
character_listed dollar = tt
character_listed (escape single_escape) = tt
character_listed (escape non_escape) = tt
character_listed (escape nul) = tt
character_listed (escape (legacy_octal zero_alone)) = tt
character_listed (escape (legacy_octal one_digit)) = tt
character_listed (escape (legacy_octal two_low)) = tt
character_listed (escape (legacy_octal two_high)) = tt
character_listed (escape (legacy_octal three_digits)) = tt
character_listed (escape non_octal_decimal) = tt
character_listed (escape hex_escape) = tt
character_listed (escape unicode_hex4) = tt
character_listed (escape unicode_code_point) = tt
character_listed (not_escape zero_decimal) = tt
character_listed (not_escape decimal_not_zero) = tt
character_listed (not_escape x0) = tt
character_listed (not_escape x1) = tt
character_listed (not_escape u0) = tt
character_listed (not_escape u1) = tt
character_listed (not_escape u2) = tt
character_listed (not_escape u3) = tt
character_listed (not_escape brace0) = tt
character_listed (not_escape brace_not_code_point) = tt
character_listed (not_escape brace_code_point) = tt
character_listed (line_continuation lf) = tt
character_listed (line_continuation cr) = tt
character_listed (line_continuation ls) = tt
character_listed (line_continuation ps) = tt
character_listed (line_continuation crlf) = tt
character_listed (line_terminator lf) = tt
character_listed (line_terminator cr) = tt
character_listed (line_terminator ls) = tt
character_listed (line_terminator ps) = tt
character_listed (line_terminator crlf) = tt

pub characters_at : (f : Character → Bool) → T (every f all_characters) → (c : Character) → T (f c)
characters_at f h c = every_at character_same f all_characters c h (character_listed c)

abbrev pub characters : Listing Character
characters = record { same = character_same; all = all_characters; at = characters_at }

pub characters_clear : (b : Body) → Clear characters (character_rule b)
characters_clear double = record { pairs = tt; settles = tt }
characters_clear single = record { pairs = tt; settles = tt }
characters_clear template = record { pairs = tt; settles = tt }

pub closing_ends : (g : Production) → Ends characters (character_rule (body_of g)) (closing g)
closing_ends double_string = tt
closing_ends single_string = tt
closing_ends no_substitution = tt
closing_ends head = tt
closing_ends middle = tt
closing_ends tail = tt
