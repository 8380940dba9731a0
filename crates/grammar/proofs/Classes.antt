-- Two classes with no common character, by a test that computes.
use Rattle.std.proofs.Common.{ℕ, Bool, true, false, ◌&&◌, ◌||◌, T, ltb, leb, ◌⊎◌, List, [], ◌∷◌, inl, inr, ⊎_elim, arith, le→leb, ltb→lt, leb→le, T_not}
use Rattle.grammar.specs.Rule.{Span, Class, only, but, within, among, member}

-- tests

pub both : (a b : Bool) → T (a && b) → T a × T b
both true b t = (tt, t)
both false b t = absurd t

pub pair : (a b : Bool) → T a → T b → T (a && b)
pair true b s t = t
pair false b s t = absurd s

pub either : (a b : Bool) → T (a || b) → T a ⊎ T b
either true b t = inl tt
either false b t = inr t

pub left : (a b : Bool) → T a → T (a || b)
left true b t = tt
left false b t = absurd t

pub right : (a b : Bool) → T b → T (a || b)
right true b t = tt
right false b t = t

-- ranges with no common number; a range inside one of a list

abbrev misses : Span → Span → Bool
misses r s = ltb r.1 s.0 || ltb s.1 r.0

abbrev misses_all : Span → List Span → Bool
misses_all r [] = true
misses_all r (s ∷ ss) = misses r s && misses_all r ss

abbrev all_miss : List Span → List Span → Bool
all_miss [] ss = true
all_miss (r ∷ rs) ss = misses_all r ss && all_miss rs ss

abbrev inside : Span → List Span → Bool
inside r [] = false
inside r (s ∷ ss) = (leb s.0 r.0 && leb r.1 s.1) || inside r ss

abbrev all_inside : List Span → List Span → Bool
all_inside [] ss = true
all_inside (r ∷ rs) ss = inside r ss && all_inside rs ss

misses_off : (c : ℕ) (r s : Span) → T (misses r s) → T (within c r) → T (within c s) → ⊥
misses_off c r s h x y =
    let (x₀, x₁) = both (leb r.0 c) (leb c r.1) x in
    let (y₀, y₁) = both (leb s.0 c) (leb c s.1) y in
    ⊎_elim (λ k. omega (arith, ltb→lt r.1 s.0 k, leb→le c r.1 x₁, leb→le s.0 c y₀)) (λ k. omega (arith, ltb→lt s.1 r.0 k, leb→le c s.1 y₁, leb→le r.0 c x₀)) (either (ltb r.1 s.0) (ltb s.1 r.0) h)

misses_all_off : (c : ℕ) (r : Span) (ss : List Span) → T (misses_all r ss) → T (within c r) → T (among c ss) → ⊥
misses_all_off c r [] h x y = y
misses_all_off c r (s ∷ ss) h x y =
    let (h₀, h₁) = both (misses r s) (misses_all r ss) h in
    ⊎_elim (λ k. misses_off c r s h₀ x k) (λ k. misses_all_off c r ss h₁ x k) (either (within c s) (among c ss) y)

all_miss_off : (c : ℕ) (rs ss : List Span) → T (all_miss rs ss) → T (among c rs) → T (among c ss) → ⊥
all_miss_off c [] ss h x y = x
all_miss_off c (r ∷ rs) ss h x y =
    let (h₀, h₁) = both (misses_all r ss) (all_miss rs ss) h in
    ⊎_elim (λ k. misses_all_off c r ss h₀ k y) (λ k. all_miss_off c rs ss h₁ k y) (either (within c r) (among c rs) x)

wider : (c : ℕ) (r s : Span) → T (leb s.0 r.0 && leb r.1 s.1) → T (within c r) → T (within c s)
wider c r s h x =
    let (x₀, x₁) = both (leb r.0 c) (leb c r.1) x in
    let (h₀, h₁) = both (leb s.0 r.0) (leb r.1 s.1) h in
    pair (leb s.0 c) (leb c s.1)
    (le→leb s.0 c (omega (arith, leb→le s.0 r.0 h₀, leb→le r.0 c x₀)))
    (le→leb c s.1 (omega (arith, leb→le r.1 s.1 h₁, leb→le c r.1 x₁)))

inside_in : (c : ℕ) (r : Span) (ss : List Span) → T (inside r ss) → T (within c r) → T (among c ss)
inside_in c r [] h x = h
inside_in c r (s ∷ ss) h x =
    ⊎_elim (λ k. left (within c s) (among c ss) (wider c r s k x)) (λ k. right (within c s) (among c ss) (inside_in c r ss k x)) (either (leb s.0 r.0 && leb r.1 s.1) (inside r ss) h)

all_inside_in : (c : ℕ) (rs ss : List Span) → T (all_inside rs ss) → T (among c rs) → T (among c ss)
all_inside_in c [] ss h x = absurd x
all_inside_in c (r ∷ rs) ss h x =
    let (h₀, h₁) = both (inside r ss) (all_inside rs ss) h in
    ⊎_elim (λ k. inside_in c r ss h₀ k) (λ k. all_inside_in c rs ss h₁ k) (either (within c r) (among c rs) x)

abbrev pub disjoint : Class → Class → Bool
disjoint (only rs) (only ss) = all_miss rs ss
disjoint (only rs) (but ss) = all_inside rs ss
disjoint (but rs) (only ss) = all_inside ss rs
disjoint (but rs) (but ss) = false

pub disjoint_off : (c : ℕ) (k l : Class) → T (disjoint k l) → T (member c k) → T (member c l) → ⊥
disjoint_off c (only rs) (only ss) h x y = all_miss_off c rs ss h x y
disjoint_off c (only rs) (but ss) h x y = T_not (among c ss) y (all_inside_in c rs ss h x)
disjoint_off c (but rs) (only ss) h x y = T_not (among c rs) x (all_inside_in c ss rs h y)
disjoint_off c (but rs) (but ss) h x y = h
