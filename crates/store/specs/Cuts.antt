-- How lent cells and a table of ends stand for lists, one after another. Assumes nothing.
use Rattle.std.specs.Prelude.{ℕ, ◌+◌, ◌-◌, Bool, true, ◌&&◌, List, [], ◌∷◌, take, drop, nat_le, nat_lt, slice_set}

abbrev pub part : {T : Type 0} → List T → ℕ → ℕ → List T
part m a b = take (b - a) (drop a m)

-- the lists that end at es, the first from s
abbrev pub cut : {T : Type 0} → List T → ℕ → List ℕ → List (List T)
cut m s [] = []
cut m s (e ∷ es) = part m s e ∷ cut m e es

-- where the last of them ends
abbrev pub final : ℕ → List ℕ → ℕ
final s [] = s
final s (e ∷ es) = final e es

abbrev pub ordered : ℕ → List ℕ → ℕ → Bool
ordered s [] u = nat_le s u
ordered s (e ∷ es) u = nat_le s e && ordered e es u

-- cells written one after another from a place on
abbrev pub laid : {T : Type 0} → List T → ℕ → List T → List T
laid m i [] = m
laid m i (b ∷ bs) = laid (slice_set m i b) (i + 1) bs

-- every cell is a 16-bit unit
abbrev pub narrow : List ℕ → Bool
narrow [] = true
narrow (u ∷ us) = nat_lt u 65536 && narrow us
