-- The units that begin at a byte, how many they are, and those that a walk has left. Assumes nothing.
use Rattle.std.specs.Prelude.{ℕ, cond, List, [], ◌∷◌, Some, None, Option, nat_lt}
use Rattle.std.specs.List.{cons_option}
use Rattle.coding.specs.Codes.{units}
use Rattle.coding.specs.declared.codes.Utf16.{Utf16}

abbrev pub told : Option (ℕ × Option ℕ) → List ℕ
told None = []
told (Some p) = p.0 ∷ cons_option p.1 []

-- how many units begin at a byte, whatever follows it
abbrev pub begins : ℕ → ℕ
begins a = cond (nat_lt a 128) 1 (cond (nat_lt a 192) 0 (cond (nat_lt a 240) 1 2))

abbrev pub left : Utf16 → List ℕ
left s = cons_option s.second (units s.rest.now)
