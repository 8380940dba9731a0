-- Each case is tried by a test, which antt computes; and what the test says.
use Rattle.std.proofs.Common.{◌≡◌, ℕ, Bool, true, false, cond, not, ◌&&◌, T, eqb, List, [], ◌∷◌, length, get_or, is_some, Some, None, Option, sym, refl, ap, subst, ap₂, eqb→eq, T_not}
use lib.Dec.{eqb_refl}
use Rattle.std.specs.List.{AllByRecursion}
use Rattle.std.specs.Str.{chars}
use Rattle.grammar.specs.Utf8.{utf8}
use Rattle.grammar.specs.Literal.{Kind, Derivable}
use Rattle.grammar.specs.Reading.{Scan, double_scan, single_scan, template_scan, resumption, Read, Reading}
use Rattle.grammar.specs.Outcome.{Fault, kind_read, end_read, faults_read, units_read}
use Rattle.grammar.specs.Laws.{Unfaulted}
use Rattle.grammar.proofs.Classes.{both, pair}
use Rattle.grammar.proofs.Exact.{accepts_exactly}
use Rattle.grammar.proofs.Finder.{find}
use Rattle.grammar_cases.specs.Engine.{Verdict, accepted, uncooked, refused, Case, Says, Agrees}
use Rattle.grammar_cases.specs.Cases.{cases, EngineAgrees}

-- tests

abbrev none : List Fault → Bool
none [] = true
none (f ∷ fs) = false

abbrev same_units : List ℕ → List ℕ → Bool
same_units [] [] = true
same_units [] (v ∷ vs) = false
same_units (u ∷ us) [] = false
same_units (u ∷ us) (v ∷ vs) = eqb u v && same_units us vs

abbrev same_value : Option (List ℕ) → Option (List ℕ) → Bool
same_value None None = true
same_value None (Some vs) = false
same_value (Some us) None = false
same_value (Some us) (Some vs) = same_units us vs

-- the reading is of the whole text, without fault
abbrev whole : List ℕ → Read → Bool
whole bs r = none (faults_read r) && (is_some (kind_read r) && eqb (end_read r) (length bs))

abbrev tried : List ℕ → Verdict → Read → Bool
tried bs (accepted us) r = whole bs r && same_value (units_read r) (Some us)
tried bs uncooked r = whole bs r && same_value (units_read r) None
tried bs refused r = not (whole bs r)

abbrev found : (bs : List ℕ) → Verdict → Option ((r : Read) × Reading (utf8 bs) r) → Bool
found bs v None = false
found bs v (Some (r, x)) = eqb r.from 0 && tried bs v r

abbrev scan_at : ℕ → Scan
scan_at b = cond (eqb b 0x22) double_scan (cond (eqb b 0x27) single_scan (cond (eqb b 0x60) template_scan resumption))

abbrev check : Case → Bool
check c = found c.bytes c.verdict (find (utf8 c.bytes) 40 (scan_at (get_or c.bytes 0 0)) 0)

-- what they say

none_says : (fs : List Fault) → T (none fs) → fs ≡ []
none_says [] h = refl
none_says (f ∷ fs) h = absurd h

units_say : (us vs : List ℕ) → T (same_units us vs) → us ≡ vs
units_say [] [] h = refl
units_say [] (v ∷ vs) h = absurd h
units_say (u ∷ us) [] h = absurd h
units_say (u ∷ us) (v ∷ vs) h = let (a, b) = both (eqb u v) (same_units us vs) h in ap₂ ◌∷◌ (eqb→eq u v a) (units_say us vs b)

value_says : (u v : Option (List ℕ)) → T (same_value u v) → u ≡ v
value_says None None h = refl
value_says None (Some vs) h = absurd h
value_says (Some us) None h = absurd h
value_says (Some us) (Some vs) h = ap Some (units_say us vs h)

some_says : (o : Option Kind) → T (is_some o) → (k : Kind) × (o ≡ Some k)
some_says (Some k) h = (k, refl)
some_says None h = absurd h

derived : (bs : List ℕ) (r : Read) (u : Option (List ℕ)) → Reading (utf8 bs) r → r.from ≡ 0 → T (whole bs r) → units_read r ≡ u → (k : Kind) × Derivable (utf8 bs) 0 k (length bs) u
derived bs r u x f h v =
    let (a, b) = both (none (faults_read r)) (is_some (kind_read r) && eqb (end_read r) (length bs)) h in
    let (c, d) = both (is_some (kind_read r)) (eqb (end_read r) (length bs)) b in
    let (k, i) = some_says (kind_read r) c in (
      k,
      subst (λ (z : ℕ). Derivable (utf8 bs) z k (length bs) u) f
          ((accepts_exactly (utf8 bs) r k (length bs) u x).0 (record { faultless = none_says (faults_read r) a; of_kind = i; ends = eqb→eq (end_read r) (length bs) d; valued = v })),
    )

is_whole : (bs : List ℕ) (r : Read) (k : Kind) (u : Option (List ℕ)) → Unfaulted r k (length bs) u → T (whole bs r)
is_whole bs r k u h =
    pair (none (faults_read r)) (is_some (kind_read r) && eqb (end_read r) (length bs)) (subst (λ (z : List Fault). T (none z)) (sym h.faultless) tt)
    (pair (is_some (kind_read r)) (eqb (end_read r) (length bs)) (subst (λ (z : Option Kind). T (is_some z)) (sym h.of_kind) tt) (subst (λ (z : ℕ). T (eqb z (length bs))) (sym h.ends) (eqb_refl (length bs))))

says : (bs : List ℕ) (v : Verdict) (r : Read) → Reading (utf8 bs) r → r.from ≡ 0 → T (tried bs v r) → Says bs v
says bs (accepted us) r x f h = let (a, b) = both (whole bs r) (same_value (units_read r) (Some us)) h in derived bs r (Some us) x f a (value_says (units_read r) (Some us) b)
says bs uncooked r x f h = let (a, b) = both (whole bs r) (same_value (units_read r) None) h in derived bs r None x f a (value_says (units_read r) None b)
says bs refused r x f h = λ k u d. T_not (whole bs r) h (is_whole bs r k u ((accepts_exactly (utf8 bs) r k (length bs) u x).1 (subst (λ (z : ℕ). Derivable (utf8 bs) z k (length bs) u) (sym f) d)))

found_says : (bs : List ℕ) (v : Verdict) (o : Option ((r : Read) × Reading (utf8 bs) r)) → T (found bs v o) → Says bs v
found_says bs v None h = absurd h
found_says bs v (Some (r, x)) h = let (a, b) = both (eqb r.from 0) (tried bs v r) h in says bs v r x (eqb→eq r.from 0 a) b

abbrev every : List Case → Bool
every [] = true
every (c ∷ cs) = check c && every cs

all_say : (cs : List Case) → T (every cs) → AllByRecursion Agrees cs
all_say [] h = tt
all_say (c ∷ cs) h =
    let (a, b) = both (check c) (every cs) h in
    (found_says c.bytes c.verdict (find (utf8 c.bytes) 40 (scan_at (get_or c.bytes 0 0)) 0) a, all_say cs b)

tries : T (every cases)
unfolding chars
tries = tt

pub engine_agrees : EngineAgrees
engine_agrees = all_say cases tries
