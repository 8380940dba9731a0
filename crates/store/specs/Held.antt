-- What a value store holds, its law and what its questions answer, for any weight. Assumes nothing.
use Rattle.std.specs.Prelude.{◌≡◌, ℕ, ◌+◌, ◌<◌, ◌≤◌, Bool, cond, ◌&&◌, List, [], ◌∷◌, ◌++◌, length, drop, Ok, Err, Result, nat_le, nat_lt, slice_index, slice_index_or}

-- finished values, the open one, how many may be finished, and what all may weigh
pub record Held : Type 0 where
  pub values : List (List ℕ)
  pub draft : List ℕ
  pub places : ℕ
  pub capacity : ℕ

abbrev pub weighed : (List ℕ → ℕ) → List (List ℕ) → ℕ
weighed w [] = 0
weighed w (v ∷ vs) = w v + weighed w vs

-- the load: each value weighed alone, the open one too
abbrev pub load : (List ℕ → ℕ) → Held → ℕ
load w h = weighed w h.values + w h.draft

-- the same finished values, and an open one
abbrev pub holding : Held → List ℕ → Held
holding h us = record { values = h.values; draft = us; places = h.places; capacity = h.capacity }

abbrev pub with_unit : Held → ℕ → Held
with_unit h u = holding h (h.draft ++ (u ∷ []))

abbrev pub dropped : Held → Held
dropped h = holding h []

abbrev pub closed : Held → Held
closed h = record { values = h.values ++ (h.draft ∷ []); draft = []; places = h.places; capacity = h.capacity }

-- a store of nothing
abbrev pub empty : ℕ → ℕ → Held
empty places capacity = record { values = []; draft = []; places = places; capacity = capacity }

-- there is room for one more unit, for one more value
abbrev pub in_room : (List ℕ → ℕ) → Held → Bool
in_room w h = nat_le (load w h) h.capacity

abbrev pub fits : (List ℕ → ℕ) → Held → ℕ → Bool
fits w h u = in_room w (with_unit h u)

abbrev pub has_place : Held → Bool
has_place h = nat_lt (length h.values) h.places

-- 16-bit units
abbrev pub Narrow : List ℕ → Type 0
Narrow [] = Unit {0}
Narrow (u ∷ us) = (u < 65536) × Narrow us

abbrev pub AllNarrow : List (List ℕ) → Type 0
AllNarrow [] = Unit {0}
AllNarrow (v ∷ vs) = Narrow v × AllNarrow vs

-- what is true of a store at any time
pub record Sound (w : List ℕ → ℕ) (h : Held) : Type 0 where
  pub light : load w h ≤ h.capacity
  pub few : length h.values ≤ h.places
  pub few_places : h.places ≤ 4096
  pub narrow : AllNarrow h.values
  pub narrow_draft : Narrow h.draft

-- the law of a store: nothing weighs nothing, and one unit more weighs one to three more
pub record Lawful {S : Type 0} (w : List ℕ → ℕ) (held : S → Held) : Type 0 where
  pub nothing : w [] ≡ 0
  pub heavier : (v : List ℕ) (u : ℕ) → Narrow v → u < 65536 → w v + 1 ≤ w (v ++ (u ∷ []))
  pub bounded : (v : List ℕ) (u : ℕ) → Narrow v → u < 65536 → w (v ++ (u ∷ [])) ≤ w v + 3
  pub sound : (s : S) → Sound w (held s)

-- what the questions answer, a refusal by its number
abbrev pub unit_told : List ℕ → ℕ → Result ℕ ℕ
unit_told v i = cond (nat_lt i (length v)) (Ok (slice_index v i)) (Err 5)

abbrev pub value_length_told : Held → ℕ → Result ℕ ℕ
value_length_told h n = cond (nat_lt n (length h.values)) (Ok (length (slice_index_or h.values n []))) (Err 5)

abbrev pub value_unit_told : Held → ℕ → ℕ → Result ℕ ℕ
value_unit_told h n i = cond (nat_lt n (length h.values)) (unit_told (slice_index_or h.values n []) i) (Err 5)

-- there is a value n, and room cells are enough for its units
abbrev pub fills : Held → ℕ → ℕ → Bool
fills h n room = nat_lt n (length h.values) && nat_le (length (slice_index_or h.values n [])) room

-- cells with a list laid over their front
abbrev pub overlaid : List ℕ → List ℕ → List ℕ
overlaid v cells = v ++ drop (length v) cells

-- what a whole value stored at once leaves and answers
abbrev pub kept : (List ℕ → ℕ) → Held → List ℕ → Held
kept w h us = cond (has_place h) (cond (in_room w (holding h us)) (closed (holding h us)) (dropped h)) h

abbrev pub keep_told : (List ℕ → ℕ) → Held → List ℕ → Result ℕ ℕ
keep_told w h us = cond (has_place h) (cond (in_room w (holding h us)) (Ok (length h.values)) (Err 12)) (Err 11)
