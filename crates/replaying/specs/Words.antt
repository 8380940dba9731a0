-- What ends a word of a line, and the digits in front of a word.
use Rattle.std.specs.Prelude.{ℕ, ◌==◌, ◌*◌, ◌/◌, Bool, not, List, take}
use Rattle.std.specs.List.{position_or_len}
use Rattle.std.specs.Char.{is_ascii_hexdigit}

-- the code of a space
abbrev pub is_space : ℕ → Bool
is_space b = b == 32

-- the code of no hex digit
abbrev pub is_other : ℕ → Bool
is_other b = not (is_ascii_hexdigit b)

-- the hex digits in front of a word, without a lone last one
abbrev pub digit_pairs_of : List ℕ → List ℕ
digit_pairs_of word = take (2 * (position_or_len is_other word / 2)) word
