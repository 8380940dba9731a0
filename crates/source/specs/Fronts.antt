-- Two bytes at the front of some bytes, and the rest. Assumes nothing.
use Rattle.std.specs.Prelude.{◌≡◌, ℕ, List, ◌∷◌}

-- the bytes begin with a and b
abbrev pub Begins : ℕ → ℕ → List ℕ → Type 0
Begins a b bytes = (rest : List ℕ) × (bytes ≡ a ∷ (b ∷ rest))
