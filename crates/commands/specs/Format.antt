-- The lines of commands in front of a text. Assumes nothing.
use Rattle.std.specs.Prelude.{◌≡◌, ℕ, ◌+◌, ◌-◌, ◌*◌, ◌≤◌, List, [], ◌∷◌, ◌++◌, length, codes, fold, ◌≢◌}
use Rattle.std.specs.List.{AllByRecursion}
use Rattle.commands.specs.declared.kinds.Word.{Word}
use Rattle.commands.specs.declared.kinds.Word.TheVariants.{Str, Template, Resume, Value}
use Rattle.commands.specs.declared.kinds.Command.{Command}

-- a command's word, with the space behind it
abbrev pub spelled : Word → List ℕ
spelled Str = codes "string "
spelled Template = codes "template "
spelled Resume = codes "resume "
spelled Value = codes "value "

abbrev pub Digit : ℕ → Type 0
Digit b = (48 ≤ b) × (b ≤ 57)

-- the number that decimal digits spell
abbrev pub decimal : List ℕ → ℕ
decimal ds = fold (λ n b. n * 10 + (b - 48)) 0 ds

-- one to eight decimal digits
abbrev pub Number : List ℕ → Type 0
Number ds = (1 ≤ length ds) × (length ds ≤ 8) × AllByRecursion Digit ds

-- the line is a word, a space and a number
abbrev pub Line : Command → List ℕ → Type 0
Line c xs = (ds : List ℕ) × (xs ≡ spelled c.word ++ ds) × Number ds × (c.start ≡ decimal ds)

-- no byte is a line feed
abbrev pub Lacks : List ℕ → Type 0
Lacks xs = AllByRecursion (λ b. b ≢ 10) xs

-- an input is a line for each command, an empty line, and the text
abbrev pub Input : List Command → List ℕ → List ℕ → Type 0
Input [] text xs = xs ≡ 10 ∷ text
Input (c ∷ cs) text xs = (front : List ℕ) × (rest : List ℕ) × (xs ≡ front ++ 10 ∷ rest) × Line c front × Input cs text rest

-- the bytes are no input
abbrev pub NoInput : List ℕ → Type 0
NoInput xs = (cs : List Command) (text : List ℕ) → Input cs text xs → ⊥
