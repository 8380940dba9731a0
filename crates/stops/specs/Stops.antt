-- Stop sets: which bytes end a run of plain characters, and their law. Assumes nothing.
use Rattle.std.specs.Prelude.{◌≡◌, ℕ, zero, suc, ◌≤◌, Bool, true, false, ◌&&◌, ◌||◌, ◌⊎◌, List, [], ◌∷◌, ◌==◌, nat_lt}
use Rattle.std.specs.Bool.{beq}

-- the bytes that end a run in a string in double quotes: the quote, the backslash, CR and LF
abbrev pub double : ℕ → Bool
double b = b == 34 || (b == 92 || (b == 13 || b == 10))

-- in a string in single quotes
abbrev pub single : ℕ → Bool
single b = b == 39 || (b == 92 || (b == 13 || b == 10))

-- in a template: the dollar sign, the backtick, CR and the backslash
abbrev pub template : ℕ → Bool
template b = b == 36 || (b == 96 || (b == 13 || b == 92))

-- the law of stop sets: every byte C0 to F7 stops, or no byte 80 to BF does
abbrev pub Safe : (ℕ → Bool) → Type 0
Safe stops = ((b : ℕ) → 192 ≤ b → b ≤ 247 → stops b ≡ true) ⊎ ((b : ℕ) → 128 ≤ b → b ≤ 191 → stops b ≡ false)

-- a test of each entry of a table and its place, counted from i
abbrev pub every : (ℕ → Bool → Bool) → ℕ → List Bool → Bool
every f i [] = true
every f i (x ∷ xs) = f i x && every f (suc i) xs

-- whether an entry is the wanted one, if its place is from lo to hi
abbrev pub wanted : ℕ → ℕ → Bool → ℕ → Bool → Bool
wanted lo hi want b x = (nat_lt b lo || nat_lt hi b) || beq x want

-- the law, as one test of a whole table
abbrev pub lawful : List Bool → Bool
lawful xs = every (wanted 192 247 true) 0 xs || every (wanted 128 191 false) 0 xs

-- the table of n entries, from i on, that a rule gives
abbrev pub tabled : (ℕ → Bool) → ℕ → ℕ → List Bool
tabled p i zero = []
tabled p i (suc n) = p i ∷ tabled p (suc i) n
