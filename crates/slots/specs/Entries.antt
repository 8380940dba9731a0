-- Entries: what is held for a start, at most once. Assumes nothing.
use Rattle.std.specs.Prelude.{◌≡◌, ℕ, ◌<◌, Bool, true, cond, not, ◌&&◌, List, [], ◌∷◌, ◌++◌, map, length, is_some, Some, None, Option, ◌==◌, nat_lt, slice_index}

-- what the entries hold for a start
abbrev pub lookup : {V : Type 0} → List (ℕ × V) → ℕ → Option V
lookup [] start = None
lookup (e ∷ es) start = cond (e.0 == start) (Some e.1) (lookup es start)

-- an entry more, unless its start has one
abbrev pub joined : {V : Type 0} → List (ℕ × V) → ℕ → V → List (ℕ × V)
joined es start value = cond (is_some (lookup es start)) es (es ++ ((start, value) ∷ []))

-- some slot is free
abbrev pub has_slot : {V : Type 0} → List (ℕ × V) → ℕ → Bool
has_slot es room = nat_lt (length es) room

-- the entries after an insert
abbrev pub inserted : {V : Type 0} → List (ℕ × V) → ℕ → ℕ → V → List (ℕ × V)
inserted es room start value = cond (has_slot es room) (joined es start value) es

-- no start has two entries
abbrev pub distinct : {V : Type 0} → List (ℕ × V) → Bool
distinct [] = true
distinct (e ∷ es) = not (is_some (lookup es e.0)) && distinct es

-- that is: entries with one start are one entry
abbrev pub start_at : {V : Type 0} → List (ℕ × V) → ℕ → ℕ
start_at es i = slice_index (map (λ e. e.0) es) i

abbrev pub OneAStart : {V : Type 0} → List (ℕ × V) → Type 0
OneAStart es = (i j : ℕ) → i < length es → j < length es → start_at es i ≡ start_at es j → i ≡ j
