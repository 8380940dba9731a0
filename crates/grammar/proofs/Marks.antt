-- The mark is seen in the characters taken.
use Rattle.std.proofs.Common.{◌≡◌, ℕ, Bool, true, false, cond, not, ◌&&◌, ◌||◌, T, List, [], ◌∷◌, is_some, sym, refl, ap, ◌∙◌, ap₂, T_not}
use Rattle.grammar.specs.Text.{Text, Spot, over, char}
use Rattle.grammar.specs.Rule.{Class, only, but, Span, among, Rule, ahead, ◌▸◌, digits, Ahead, Matches, codes}
use Rattle.grammar.specs.Production.{points}
use Rattle.grammar.specs.Literal.{Body, double, single, template, Node, Chain}
use Rattle.grammar.specs.Reading.{body_read, Step, step_rule}
use Rattle.grammar.specs.Outcome.{kind_read, step_marks, any_marks}
use Rattle.grammar.specs.Laws.{any_sign, any_signs, MarkIsSeen}
use Rattle.grammar.proofs.Classes.{both, disjoint, disjoint_off}
use Rattle.grammar.proofs.Listing.{every}
use Rattle.grammar.proofs.Steps.{all_steps, steps_at}

abbrev signs : List Span
signs = points (0x5C ∷ 0x0D ∷ [])

-- a rule that begins with a sign, or takes nothing at all; and one that takes none

abbrev seen : Rule → Bool
seen (ahead k e) = disjoint k (but []) && not e
seen (k ▸ r) = disjoint k (but signs)
seen (digits b r) = false

abbrev unseen : Rule → Bool
unseen (ahead k e) = true
unseen (k ▸ r) = disjoint k (only signs) && unseen r
unseen (digits b r) = false

nothing_ahead : (s : Spot) (k : Class) (e : Bool) → T (disjoint k (but []) && not e) → Ahead s k e → ⊥
nothing_ahead over k e h x = T_not e (both (disjoint k (but [])) (not e) h).1 x
nothing_ahead (char c m) k e h x = disjoint_off c k (but []) (both (disjoint k (but [])) (not e) h).0 x tt

among_or : (c : ℕ) (ss : List Span) (b : Bool) → (T (not (among c ss)) → ⊥) → among c ss || b ≡ true
among_or c ss b h = go (among c ss) h
  where
    go : (a : Bool) → (T (not a) → ⊥) → a || b ≡ true
    go true h = refl
    go false h = absurd (h tt)

not_or : (c : ℕ) (ss : List Span) (b : Bool) → (T (among c ss) → ⊥) → among c ss || b ≡ b
not_or c ss b h = go (among c ss) h
  where
    go : (a : Bool) → (T a → ⊥) → a || b ≡ b
    go true h = absurd (h tt)
    go false h = refl

seen_says : (r : Rule) → T (seen r) → (t : Text) (p : ℕ) (cs : List ℕ) (q : ℕ) → Matches t p r cs q → any_sign cs ≡ true
seen_says (ahead k e) h t p cs q x = absurd (nothing_ahead (t p) k e h x.2)
seen_says (k ▸ r) h t p cs q x = ap any_sign x.4 ∙ among_or x.0 signs (any_sign x.2) (λ n. disjoint_off x.0 k (but signs) h x.5 n)
seen_says (digits b r) h t p cs q x = absurd h

unseen_says : (r : Rule) → T (unseen r) → (t : Text) (p : ℕ) (cs : List ℕ) (q : ℕ) → Matches t p r cs q → any_sign cs ≡ false
unseen_says (ahead k e) h t p cs q x = ap any_sign x.0
unseen_says (k ▸ r) h t p cs q x =
    let (a, b) = both (disjoint k (only signs)) (unseen r) h in
    ap any_sign x.4 ∙ not_or x.0 signs (any_sign x.2) (λ n. disjoint_off x.0 k (only signs) a x.5 n) ∙ unseen_says r b t x.1 x.2 q x.6
unseen_says (digits b r) h t p cs q x = absurd h

-- every step of a table

abbrev told : Body → Step → Bool
told b s = cond (step_marks s) (seen (step_rule b s)) (unseen (step_rule b s))

all_told : (b : Body) → T (every (told b) all_steps)
all_told double = tt
all_told single = tt
all_told template = tt

step_seen : (b : Body) (s : Step) (t : Text) (p : ℕ) (cs : List ℕ) (q : ℕ) → Matches t p (step_rule b s) cs q → step_marks s ≡ any_sign cs
step_seen b s t p cs q x = go (step_marks s) (steps_at (told b) (all_told b) s)
  where
    go : (m : Bool) → T (cond m (seen (step_rule b s)) (unseen (step_rule b s))) → m ≡ any_sign cs
    go true h = sym (seen_says (step_rule b s) h t p cs q x)
    go false h = sym (unseen_says (step_rule b s) h t p cs q x)

pub steps_seen : (b : Body) (t : Text) (p q : ℕ) (ns : List (Node Step)) → Chain (step_rule b) t p ns q → any_marks ns ≡ any_signs ns
steps_seen b t p q [] x = refl
steps_seen b t p q (n ∷ ns) x = ap₂ ◌||◌ (step_seen b n.what t p (codes n.leaves) n.to x.1.matches) (steps_seen b t n.to q ns x.2)

pub mark_is_seen : MarkIsSeen
mark_is_seen t r x = ap (λ (z : Bool). cond (is_some (kind_read r)) z false) (steps_seen (body_read r.scan) t r.start r.stop r.steps x.stepped)
