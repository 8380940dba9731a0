-- A reading or a derivation with its proof, looked for by trying the tables: for worked cases, where the text is written out.
use Rattle.std.proofs.Common.{◌≡◌, ℕ, zero, suc, ◌+◌, ◌*◌, Bool, true, false, T, ltb, List, [], ◌∷◌, ◌++◌, is_some, Some, None, Option, refl}
use Rattle.grammar.specs.Text.{Text, Spot, over, char}
use Rattle.grammar.specs.Rule.{Class, member, hex_digit, digit, Bound, at_most, above, just_above, meets, Rule, ahead, ◌▸◌, digits, Ahead, Run, Leaf, codes, Stand, Takes}
use Rattle.grammar.specs.Literal.{character_rule, Production, opening, body_of, closing, Node, Chain, Tree, Derives}
use Rattle.grammar.specs.Reading.{Scan, opening_of, body_read, step_rule, end_rule, Read, Reading}
use Rattle.grammar.proofs.Leaves.{leaf, takes_end, takes_one, takes_digits}
use Rattle.grammar.proofs.Characters.{all_characters}
use Rattle.grammar.proofs.Steps.{all_steps, all_endings}

abbrev pub Take : Text → ℕ → Rule → Type 0
Take t p r = (ls : List Leaf) × (q : ℕ) × Takes t p r ls q

abbrev test : (b : Bool) → Option (T b)
test true = Some tt
test false = None

abbrev look : (s : Spot) (k : Class) (e : Bool) → Option (Ahead s k e)
look over k e = test e
look (char c q) k e = test (member c k)

-- the digits from a place on: all of them or, for the last bound, up to the one that lifts the MV; v is the MV so far

abbrev Digits : Text → ℕ → Type 0
Digits t p = (ds : List Leaf) × (m : ℕ) × Run t p (codes ds) m × Stand t p ds m

abbrev enough : Bound → ℕ → Bool
enough (at_most n) v = false
enough (above n) v = false
enough (just_above n) v = ltb n v

abbrev run : (t : Text) → Bound → ℕ → (v p : ℕ) → Digits t p
run t b zero v p = ([], p, refl, refl)
run t b (suc n) v p = go (t p) refl (enough b v) (run t b n)
  where
    more : (c m : ℕ) → t p ≡ char c m → (h : Bool) → (T h → T (member c hex_digit)) → ((w k : ℕ) → Digits t k) → Digits t p
    more c m e true h f = let r = f (v * 16 + digit c) m in (leaf p c ∷ r.0, r.1, (m, e, h tt, r.2), (refl, (m, e, r.3)))
    more c m e false h f = ([], p, refl, refl)

    go : (s : Spot) → t p ≡ s → Bool → ((w k : ℕ) → Digits t k) → Digits t p
    go over e x f = ([], p, refl, refl)
    go (char c m) e true f = ([], p, refl, refl)
    go (char c m) e false f = more c m e (member c hex_digit) (λ x. x) f

abbrev attempt : (t : Text) → ℕ → (r : Rule) (p : ℕ) → Option (Take t p r)
attempt t n (ahead k e) p = elim (look (t p) k e) [ Some h ↦ Some ([], p, takes_end t p k e h) | None ↦ None ]
attempt t n (k ▸ r) p = go (t p) refl (attempt t n r)
  where
    go : (s : Spot) → t p ≡ s → ((m : ℕ) → Option (Take t m r)) → Option (Take t p (k ▸ r))
    go over e f = None
    go (char c m) e f = elim (test (member c k)) [ None ↦ None | Some h ↦ elim (f m) [ None ↦ None | Some x ↦ Some (leaf p c ∷ x.0, x.1, takes_one t p k r c m x.0 x.1 e h x.2) ] ]
attempt t n (digits b r) p = go (run t b n 0 p) (attempt t n r)
  where
    go : Digits t p → ((m : ℕ) → Option (Take t m r)) → Option (Take t p (digits b r))
    go d f =
        elim (test (meets b (codes d.0))) [
          | None ↦ None
          | Some h ↦ elim (f d.1) [ None ↦ None | Some x ↦ Some (d.0 ++ x.0, x.1, takes_digits t p b r d.0 d.1 x.0 x.1 d.2 d.3 h x.2) ]
        ]

-- the first entry of a list whose rule takes something
abbrev pick : {A : Type 0} (f : A → Rule) (t : Text) → ℕ → (p : ℕ) → List A → Option ((a : A) × Take t p (f a))
pick f t n p [] = None
pick f t n p (a ∷ more) = elim (attempt t n (f a) p) [ Some x ↦ Some (a, x) | None ↦ pick f t n p more ]

-- entries of a table in a row, up to an ending
abbrev Rest : {A E : Type 0} → (A → Rule) → (E → Rule) → Text → ℕ → Type 0
Rest {A} {E} f g t p = (ns : List (Node A)) × (q : ℕ) × Chain f t p ns q × (e : E) × Take t q (g e)

abbrev walk : {A E : Type 0} (f : A → Rule) (g : E → Rule) → List A → List E → (t : Text) → ℕ → ℕ → (p : ℕ) → Option (Rest f g t p)
walk f g table es t n zero p = None
walk {A} {E} f g table es t n (suc m) p = at_end (pick g t n p es) (walk f g table es t n m)
  where
    Next : Type 0
    Next = (k : ℕ) → Option (Rest f g t k)

    step : Option ((a : A) × Take t p (f a)) → Next → Option (Rest f g t p)
    step None h = None
    step (Some (a, (ls, q, x))) h = elim (h q) [ None ↦ None | Some r ↦ Some (record { what = a; from = p; leaves = ls; to = q } ∷ r.0, r.1, (refl, x, r.2), r.3, r.4) ]

    at_end : Option ((e : E) × Take t p (g e)) → Next → Option (Rest f g t p)
    at_end (Some (e, x)) h = Some ([], p, refl, e, x)
    at_end None h = step (pick f t n p table) h

abbrev pub find : (t : Text) → ℕ → (s : Scan) (p : ℕ) → Option ((r : Read) × Reading t r)
find t n s p = open_at (attempt t n (opening_of s) p)
  where
    open_at : Option (Take t p (opening_of s)) → Option ((r : Read) × Reading t r)
    open_at None = None
    open_at (Some (ls, q, x)) = elim (walk (step_rule (body_read s)) (end_rule (body_read s)) all_steps all_endings t n n q) [
      | None ↦ None
      | Some r ↦ Some (
        record { scan = s; from = p; opens = ls; start = q; steps = r.0; stop = r.1; ending = r.3; ends = r.4.0; to = r.4.1 },
        record { opened = x; stepped = r.2; ended = r.4.2 },
      )
    ]

-- a derivation by a production
abbrev pub derive : (t : Text) → ℕ → (g : Production) (p : ℕ) → Option ((d : Tree) × Derives t d)
derive t n g p = open_at (attempt t n (opening g) p)
  where
    close : Unit {0} → Rule
    close u = closing g

    open_at : Option (Take t p (opening g)) → Option ((d : Tree) × Derives t d)
    open_at None = None
    open_at (Some (ls, q, x)) = elim (walk (character_rule (body_of g)) close all_characters (tt ∷ []) t n n q) [
      | None ↦ None
      | Some r ↦ Some (
        record { production = g; from = p; opens = ls; start = q; characters = r.0; close = r.1; closes = r.4.0; to = r.4.1 },
        record { opened = x; inside = r.2; closed = r.4.2 },
      )
    ]

abbrev pub the : {A : Type 0} (o : Option A) → T (is_some o) → A
the (Some a) h = a
the None h = absurd h
