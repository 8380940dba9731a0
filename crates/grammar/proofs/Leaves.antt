-- The leaves of a match: there are some, and they are one list.
use Rattle.std.proofs.Common.{◌≡◌, ℕ, Bool, T, List, [], ◌∷◌, ◌++◌, sym, refl, ap, ◌∙◌, subst, ap₂, arith}
use Rattle.grammar.specs.Text.{Text, char}
use Rattle.grammar.specs.Rule.{Class, member, Bound, meets, Rule, ahead, ◌▸◌, digits, Ahead, Run, Matches, Leaf, codes, Stand, Takes}
use Rattle.grammar.proofs.Runs.{same_char}
use Rattle.grammar.proofs.Apart.{settled, match_same}

leaf_path : (l m : Leaf) → l.place ≡ m.place → l.code ≡ m.code → l ≡ m
leaf_path l m a b i = record { place = a i; code = b i }

heads : {c d : ℕ} {cs ds : List ℕ} → c ∷ cs ≡ d ∷ ds → (c ≡ d) × (cs ≡ ds)
heads e = (cc, cc)

no_cons : {c : ℕ} {cs : List ℕ} → [] ≡ c ∷ cs → ⊥
no_cons e = let z : ◌≡◌ {A = ℕ} 0 1 = cc in omega (arith, z)

pub stand_same : (t : Text) (p q u : ℕ) (ls ms : List Leaf) → codes ls ≡ codes ms → Stand t p ls q → Stand t p ms u → ls ≡ ms
stand_same t p q u [] [] e x y = refl
stand_same t p q u [] (m ∷ ms) e x y = absurd (no_cons e)
stand_same t p q u (l ∷ ls) [] e x y = absurd (no_cons (sym e))
stand_same t p q u (l ∷ ls) (m ∷ ms) e x y =
    let (c, es) = heads e in
    let k = (same_char x.1.1 y.1.1).1 in
    ap₂ ◌∷◌ (leaf_path l m (x.0 ∙ sym y.0) c) (stand_same t y.1.0 q u ls ms es (subst (λ (z : ℕ). Stand t z ls q) k x.1.2) y.1.2)

-- a rule takes from a place in one way
pub takes_same : (r : Rule) → T (settled r) → (t : Text) (p : ℕ) (ls ms : List Leaf) (q u : ℕ) → Takes t p r ls q → Takes t p r ms u → (ls ≡ ms) × (q ≡ u)
takes_same r h t p ls ms q u x y =
    let (c, e) = match_same r h t p (codes ls) (codes ms) q u x.matches y.matches in
    (stand_same t p q u ls ms c x.stand y.stand, e)

abbrev pub Leaves : Text → ℕ → List ℕ → ℕ → Type 0
Leaves t p cs q = (ls : List Leaf) × (codes ls ≡ cs) × Stand t p ls q

pub none_leaves : (t : Text) (p q : ℕ) → p ≡ q → Leaves t p [] q
none_leaves t p q e = ([], refl, e)

pub more_leaves : (t : Text) (p c m q : ℕ) (cs : List ℕ) → t p ≡ char c m → Leaves t m cs q → Leaves t p (c ∷ cs) q
more_leaves t p c m q cs e (ls, i, s) = (record { place = p; code = c } ∷ ls, ap (λ (z : List ℕ). c ∷ z) i, (refl, (m, e, s)))

run_leaves : (t : Text) (p m q : ℕ) (ds es : List ℕ) → Run t p ds m → Leaves t m es q → Leaves t p (ds ++ es) q
run_leaves t p m q [] es x y = subst (λ (z : ℕ). Leaves t z es q) (sym x) y
run_leaves t p m q (d ∷ ds) es x y = more_leaves t p d x.0 q (ds ++ es) x.1 (run_leaves t x.0 m q ds es x.3 y)

-- a match has its leaves
pub match_leaves : (r : Rule) (t : Text) (p : ℕ) (cs : List ℕ) (q : ℕ) → Matches t p r cs q → Leaves t p cs q
match_leaves (ahead k e) t p cs q x = subst (λ (z : List ℕ). Leaves t p z q) (sym x.0) (none_leaves t p q x.1)
match_leaves (k ▸ r) t p cs q x = subst (λ (z : List ℕ). Leaves t p z q) (sym x.4) (more_leaves t p x.0 x.1 q x.2 x.3 (match_leaves r t x.1 x.2 q x.6))
match_leaves (digits b r) t p cs q x = subst (λ (z : List ℕ). Leaves t p z q) (sym x.4) (run_leaves t p x.1 q x.0 x.2 x.3 (match_leaves r t x.1 x.2 q x.6))

-- so a match is taken, with leaves of these codes
pub takes : (r : Rule) (t : Text) (p : ℕ) (cs : List ℕ) (q : ℕ) → Matches t p r cs q → (ls : List Leaf) × (codes ls ≡ cs) × Takes t p r ls q
takes r t p cs q x = let (ls, e, s) = match_leaves r t p cs q x in (ls, e, record { matches = subst (λ (z : List ℕ). Matches t p r z q) (sym e) x; stand = s })

-- rules taken part by part

abbrev pub leaf : ℕ → ℕ → Leaf
leaf p c = record { place = p; code = c }

pub takes_end : (t : Text) (p : ℕ) (k : Class) (e : Bool) → Ahead (t p) k e → Takes t p (ahead k e) [] p
takes_end t p k e h = record { matches = (refl, refl, h); stand = refl }

pub takes_one : (t : Text) (p : ℕ) (k : Class) (r : Rule) (c m : ℕ) (ls : List Leaf) (q : ℕ) → t p ≡ char c m → T (member c k) → Takes t m r ls q → Takes t p (k ▸ r) (leaf p c ∷ ls) q
takes_one t p k r c m ls q e h x = record { matches = (c, m, codes ls, e, refl, h, x.matches); stand = (refl, (m, e, x.stand)) }

codes_append : (ls ms : List Leaf) → codes (ls ++ ms) ≡ codes ls ++ codes ms
codes_append [] ms = refl
codes_append (l ∷ ls) ms = ap (λ (z : List ℕ). l.code ∷ z) (codes_append ls ms)

stand_append : (t : Text) (p m q : ℕ) (ls ms : List Leaf) → Stand t p ls m → Stand t m ms q → Stand t p (ls ++ ms) q
stand_append t p m q [] ms x y = subst (λ (z : ℕ). Stand t z ms q) (sym x) y
stand_append t p m q (l ∷ ls) ms x y = (x.0, (x.1.0, x.1.1, stand_append t x.1.0 m q ls ms x.1.2 y))

pub takes_digits :
    (t : Text) (p : ℕ) (b : Bound) (r : Rule) (ds : List Leaf) (m : ℕ) (ls : List Leaf) (q : ℕ) → Run t p (codes ds) m → Stand t p ds m → T (meets b (codes ds)) → Takes t m r ls q
    → Takes t p (digits b r) (ds ++ ls) q
takes_digits t p b r ds m ls q x s h y =
    record { matches = (codes ds, m, codes ls, x, codes_append ds ls, h, y.matches); stand = stand_append t p m q ds ls s y.stand }
