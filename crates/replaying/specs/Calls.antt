-- What a replay of a text's lines counts.
use Rattle.std.specs.Prelude.{ℕ, ◌≡◌, Bool, not, List, map, count_by, Result, Ok}
use Rattle.std.specs.List.{FoldsTo}
use Rattle.std.specs.Str.Lines.{lines}

-- `step f line answer g` is read as: asked about the line, f gives the answer and is g from then on. Asked about each line
-- of the text in order, from f on, the answers are true so many times and false so many times.
abbrev pub Counts : {F L E : Type 0} → (F → L → Result Bool E → F → Type 0) → (L → List ℕ) → F → List ℕ → ℕ → ℕ → Type 0
Counts {F} {L} step bytes f text agree differ =
    (calls : List (L × Bool)) × (last : F) × FoldsTo (λ p call q. step p call.0 (Ok call.1) q) f calls last
    × (map (λ call. bytes call.0) calls ≡ lines text)
    × (count_by (λ call. call.1) calls ≡ agree) × (count_by (λ call. not call.1) calls ≡ differ)
