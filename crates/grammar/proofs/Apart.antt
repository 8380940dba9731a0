-- Two rules that cannot both match from one place, by a test that computes; and one rule matches in one way.
use Rattle.std.proofs.Common.{◌≡◌, ℕ, ◌≤◌, Bool, true, false, not, ◌&&◌, ◌||◌, T, ltb, leb, List, [], ◌∷◌, ◌++◌, sym, ◌∙◌, subst, ap₂, ⊎_elim, arith, ltb→lt, leb→le, T_not}
use Rattle.grammar.specs.Text.{Text, Spot, over, char}
use Rattle.grammar.specs.Rule.{Class, member, hex_digit, Bound, at_most, above, just_above, meets, mv, mv_from, but_last, Rule, ahead, ◌▸◌, digits, Ahead, Run, Matches}
use Rattle.grammar.proofs.Classes.{both, pair, either, disjoint, disjoint_off}
use Rattle.grammar.proofs.Runs.{same_char, Shut, run_same, lifted, lifted_from, lifted_same, lifted_off}

-- how a rule begins: with which character, and whether the text's end will do

abbrev first : Rule → Class
first (ahead k e) = k
first (k ▸ r) = k
first (digits b r) = hex_digit

abbrev at_end : Rule → Bool
at_end (ahead k e) = e
at_end (k ▸ r) = false
at_end (digits b r) = false

pub ahead_char : {s : Spot} {c m : ℕ} (k : Class) (e : Bool) → s ≡ char c m → T (member c k) → Ahead s k e
ahead_char k e p h = subst (λ (z : Spot). Ahead z k e) (sym p) h

ahead_at : {s : Spot} {c m : ℕ} (k : Class) (e : Bool) → s ≡ char c m → Ahead s k e → T (member c k)
ahead_at k e p h = subst (λ (z : Spot). Ahead z k e) p h

run_begins : (t : Text) (p q : ℕ) (b : Bound) (ds : List ℕ) → T (meets b ds) → Run t p ds q → Ahead (t p) hex_digit false
run_begins t p q b [] h x = absurd h
run_begins t p q b (d ∷ ds) h x = ahead_char hex_digit false x.1 x.2

begins : (r : Rule) (t : Text) (p : ℕ) (cs : List ℕ) (q : ℕ) → Matches t p r cs q → Ahead (t p) (first r) (at_end r)
begins (ahead k e) t p cs q x = x.2
begins (k ▸ r) t p cs q x = ahead_char k false x.3 x.5
begins (digits b r) t p cs q x = run_begins t p x.1 b x.0 x.5 x.3

aheads_off : (s : Spot) (k l : Class) (e f : Bool) → T (disjoint k l && not (e && f)) → Ahead s k e → Ahead s l f → ⊥
aheads_off over k l e f h x y = T_not (e && f) (both (disjoint k l) (not (e && f)) h).1 (pair e f x y)
aheads_off (char c m) k l e f h x y = disjoint_off c k l (both (disjoint k l) (not (e && f)) h).0 x y

-- the tests on rules

abbrev apart_first : Rule → Rule → Bool
apart_first r s = disjoint (first r) (first s) && not (at_end r && at_end s)

-- no hex digit may stand where the rule begins
abbrev closes : Rule → Bool
closes r = disjoint hex_digit (first r)

-- of two runs of digits: whether each is closed by the rule behind it, and whether those rules are apart
abbrev apart_runs : Bound → Bound → Bool → Bool → Bool → Bool
apart_runs (at_most m) (at_most n) x y z = x && (y && z)
apart_runs (at_most m) (above n) x y z = x && (y && leb m n)
apart_runs (at_most m) (just_above n) x y z = x && leb m n
apart_runs (above m) (at_most n) x y z = x && (y && leb n m)
apart_runs (above m) (above n) x y z = false
apart_runs (above m) (just_above n) x y z = false
apart_runs (just_above m) (at_most n) x y z = y && leb n m
apart_runs (just_above m) (above n) x y z = false
apart_runs (just_above m) (just_above n) x y z = false

abbrev pub apart : Rule → Rule → Bool
apart (ahead k e) s = apart_first (ahead k e) s
apart (k ▸ r) (ahead l f) = apart_first (k ▸ r) (ahead l f)
apart (k ▸ r) (l ▸ s) = apart_first (k ▸ r) (l ▸ s) || apart r s
apart (k ▸ r) (digits c s) = apart_first (k ▸ r) (digits c s)
apart (digits b r) (ahead l f) = apart_first (digits b r) (ahead l f)
apart (digits b r) (l ▸ s) = apart_first (digits b r) (l ▸ s)
apart (digits b r) (digits c s) = apart_runs b c (closes r) (closes s) (apart r s)

abbrev settled_run : Bound → Rule → Bool
settled_run (at_most n) r = closes r
settled_run (above n) r = closes r
settled_run (just_above n) r = true

abbrev pub settled : Rule → Bool
settled (ahead k e) = true
settled (k ▸ r) = settled r
settled (digits b r) = settled_run b r && settled r

-- what they say

first_off : (r s : Rule) → T (apart_first r s) → (t : Text) (p : ℕ) (cs ds : List ℕ) (q u : ℕ) → Matches t p r cs q → Matches t p s ds u → ⊥
first_off r s h t p cs ds q u x y = aheads_off (t p) (first r) (first s) (at_end r) (at_end s) h (begins r t p cs q x) (begins s t p ds u y)

shut : (r : Rule) → T (closes r) → (t : Text) (p : ℕ) (cs : List ℕ) (q : ℕ) → Matches t p r cs q → Shut t p
shut r h t p cs q x c m e y = disjoint_off c hex_digit (first r) h y (ahead_at (first r) (at_end r) e (begins r t p cs q x))

-- a bound's test, as a fact of the MV

small : (n : ℕ) (ds : List ℕ) → T (meets (at_most n) ds) → mv_from 16 0 ds ≤ n
small n [] h = absurd h
small n (d ∷ ds) h = leb→le (mv 16 (d ∷ ds)) n h

lifts : (n : ℕ) (ds : List ℕ) → T (meets (just_above n) ds) → T (lifted n 0 ds)
lifts n [] h = absurd h
lifts n (d ∷ ds) h = let (a, b) = both (ltb n (mv 16 (d ∷ ds))) (leb (mv 16 (but_last (d ∷ ds))) n) h in lifted_from n 0 d ds a b

bounds_off : (m n : ℕ) (ds : List ℕ) → T (leb m n) → T (meets (at_most m) ds) → T (meets (above n) ds) → ⊥
bounds_off m n [] h x y = x
bounds_off m n (d ∷ ds) h x y = omega (arith, leb→le m n h, leb→le (mv 16 (d ∷ ds)) m x, ltb→lt n (mv 16 (d ∷ ds)) y)

abbrev Digits : Text → ℕ → Bound → Rule → List ℕ → ℕ → Type 0
Digits t p b r cs q = Matches t p (digits b r) cs q

-- closed runs from one place are one
both_closed :
    (b c : Bound) (r s : Rule) (t : Text) (p : ℕ) (cs ds : List ℕ) (q u : ℕ) → T (closes r) → T (closes s) → (x : Digits t p b r cs q) (y : Digits t p c s ds u) → (x.0 ≡ y.0) × (x.1 ≡ y.1)
both_closed b c r s t p cs ds q u h k x y = run_same t p x.1 y.1 x.0 y.0 x.3 y.3 (shut r h t x.1 x.2 q x.6) (shut s k t y.1 y.2 u y.6)

most_above :
    (m n : ℕ) (r s : Rule) (t : Text) (p : ℕ) (cs ds : List ℕ) (q u : ℕ) → T (closes r) → T (closes s) → T (leb m n) → Digits t p (at_most m) r cs q → Digits t p (above n) s ds u → ⊥
most_above m n r s t p cs ds q u h k l x y =
    let i = (both_closed (at_most m) (above n) r s t p cs ds q u h k x y).0 in
    bounds_off m n y.0 l (subst (λ (z : List ℕ). T (meets (at_most m) z)) i x.5) y.5

most_lifted : (m n : ℕ) (r s : Rule) (t : Text) (p : ℕ) (cs ds : List ℕ) (q u : ℕ) → T (closes r) → T (leb m n) → Digits t p (at_most m) r cs q → Digits t p (just_above n) s ds u → ⊥
most_lifted m n r s t p cs ds q u h l x y =
    lifted_off t p x.1 y.1 m n 0 x.0 y.0 (leb→le m n l) (small m x.0 x.5) (lifts n y.0 y.5) x.3 y.3 (shut r h t x.1 x.2 q x.6)

abbrev Off : Rule → Rule → Type 0
Off r s = (t : Text) (p : ℕ) (cs ds : List ℕ) (q u : ℕ) → Matches t p r cs q → Matches t p s ds u → ⊥

runs_off : (b c : Bound) (r s : Rule) → (T (apart r s) → Off r s) → T (apart_runs b c (closes r) (closes s) (apart r s)) → Off (digits b r) (digits c s)
runs_off (at_most m) (at_most n) r s f h t p cs ds q u x y =
    let (h₀, h₁) = both (closes r) (closes s && apart r s) h in
    let (h₂, h₃) = both (closes s) (apart r s) h₁ in
    let e = (both_closed (at_most m) (at_most n) r s t p cs ds q u h₀ h₂ x y).1 in
    f h₃ t y.1 x.2 y.2 q u (subst (λ (z : ℕ). Matches t z r x.2 q) e x.6) y.6
runs_off (at_most m) (above n) r s f h t p cs ds q u x y =
    let (h₀, h₁) = both (closes r) (closes s && leb m n) h in
    let (h₂, h₃) = both (closes s) (leb m n) h₁ in
    most_above m n r s t p cs ds q u h₀ h₂ h₃ x y
runs_off (at_most m) (just_above n) r s f h t p cs ds q u x y = let (h₀, h₁) = both (closes r) (leb m n) h in most_lifted m n r s t p cs ds q u h₀ h₁ x y
runs_off (above m) (at_most n) r s f h t p cs ds q u x y =
    let (h₀, h₁) = both (closes r) (closes s && leb n m) h in
    let (h₂, h₃) = both (closes s) (leb n m) h₁ in
    most_above n m s r t p ds cs u q h₂ h₀ h₃ y x
runs_off (above m) (above n) r s f h t p cs ds q u x y = h
runs_off (above m) (just_above n) r s f h t p cs ds q u x y = h
runs_off (just_above m) (at_most n) r s f h t p cs ds q u x y = let (h₀, h₁) = both (closes s) (leb n m) h in most_lifted n m s r t p ds cs u q h₀ h₁ y x
runs_off (just_above m) (above n) r s f h t p cs ds q u x y = h
runs_off (just_above m) (just_above n) r s f h t p cs ds q u x y = h

pub apart_off : (r s : Rule) → T (apart r s) → Off r s
apart_off (ahead k e) s h t p cs ds q u x y = first_off (ahead k e) s h t p cs ds q u x y
apart_off (k ▸ r) (ahead l f) h t p cs ds q u x y = first_off (k ▸ r) (ahead l f) h t p cs ds q u x y
apart_off (k ▸ r) (l ▸ s) h t p cs ds q u x y =
    let m = (same_char x.3 y.3).1 in
    ⊎_elim (λ g. first_off (k ▸ r) (l ▸ s) g t p cs ds q u x y)
    (λ g. apart_off r s g t y.1 x.2 y.2 q u (subst (λ (z : ℕ). Matches t z r x.2 q) m x.6) y.6)
    (either (apart_first (k ▸ r) (l ▸ s)) (apart r s) h)
apart_off (k ▸ r) (digits c s) h t p cs ds q u x y = first_off (k ▸ r) (digits c s) h t p cs ds q u x y
apart_off (digits b r) (ahead l f) h t p cs ds q u x y = first_off (digits b r) (ahead l f) h t p cs ds q u x y
apart_off (digits b r) (l ▸ s) h t p cs ds q u x y = first_off (digits b r) (l ▸ s) h t p cs ds q u x y
apart_off (digits b r) (digits c s) h t p cs ds q u x y = runs_off b c r s (apart_off r s) h t p cs ds q u x y

settled_runs : (b : Bound) (r : Rule) (t : Text) (p : ℕ) (cs ds : List ℕ) (q u : ℕ) → T (settled_run b r) → (x : Digits t p b r cs q) (y : Digits t p b r ds u) → (x.0 ≡ y.0) × (x.1 ≡ y.1)
settled_runs (at_most n) r t p cs ds q u h x y = both_closed (at_most n) (at_most n) r r t p cs ds q u h h x y
settled_runs (above n) r t p cs ds q u h x y = both_closed (above n) (above n) r r t p cs ds q u h h x y
settled_runs (just_above n) r t p cs ds q u h x y = lifted_same t p x.1 y.1 n 0 x.0 y.0 (lifts n x.0 x.5) (lifts n y.0 y.5) x.3 y.3

pub match_same : (r : Rule) → T (settled r) → (t : Text) (p : ℕ) (cs ds : List ℕ) (q u : ℕ) → Matches t p r cs q → Matches t p r ds u → (cs ≡ ds) × (q ≡ u)
match_same (ahead k e) h t p cs ds q u x y = (x.0 ∙ sym y.0, sym x.1 ∙ y.1)
match_same (k ▸ r) h t p cs ds q u x y =
    let (i, m) = same_char x.3 y.3 in
    let (j, n) = match_same r h t y.1 x.2 y.2 q u (subst (λ (z : ℕ). Matches t z r x.2 q) m x.6) y.6 in
    (x.4 ∙ ap₂ ◌∷◌ i j ∙ sym y.4, n)
match_same (digits b r) h t p cs ds q u x y =
    let (h₀, h₁) = both (settled_run b r) (settled r) h in
    let (i, m) = settled_runs b r t p cs ds q u h₀ x y in
    let (j, n) = match_same r h₁ t y.1 x.2 y.2 q u (subst (λ (z : ℕ). Matches t z r x.2 q) m x.6) y.6 in
    (x.4 ∙ ap₂ ◌++◌ i j ∙ sym y.4, n)
