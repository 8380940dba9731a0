-- Rows of nodes put together, and what they tell: for readers that go piece by piece.
use Rattle.std.proofs.Common.{◌≡◌, ℕ, Bool, true, false, ◌||◌, List, [], ◌∷◌, ◌++◌, Some, None, Option, sym, refl, ap, ◌∙◌, subst, append_assoc}
use Rattle.grammar.specs.Text.{Text}
use Rattle.grammar.specs.Rule.{Rule, Matches, codes}
use Rattle.grammar.specs.Value.{joined}
use Rattle.grammar.specs.Literal.{Node, Chain}
use Rattle.grammar.specs.Reading.{Step}
use Rattle.grammar.specs.Outcome.{Fault, step_faults, faults_of, step_marks, any_marks, step_value, units_from}
use Rattle.grammar.proofs.Leaves.{takes}

pub chain_append : {A : Type 0} (f : A → Rule) (t : Text) (p q r : ℕ) (ms ns : List (Node A)) → Chain f t p ms q → Chain f t q ns r → Chain f t p (ms ++ ns) r
chain_append f t p q r [] ns x y = subst (λ (z : ℕ). Chain f t z ns r) (sym x) y
chain_append f t p q r (m ∷ ms) ns x y = (x.0, x.1, chain_append f t m.to q r ms ns x.2 y)

-- a match as a row of one node, of these codes
pub chain_one :
    {A : Type 0} (f : A → Rule) (t : Text) (p : ℕ) (a : A) (cs : List ℕ) (q : ℕ) → Matches t p (f a) cs q
    → (n : Node A) × (n.what ≡ a) × (n.from ≡ p) × (codes n.leaves ≡ cs) × (n.to ≡ q) × Chain f t p (n ∷ []) q
chain_one f t p a cs q x = let (ls, e, y) = takes (f a) t p cs q x in (record { what = a; from = p; leaves = ls; to = q }, refl, refl, e, refl, (refl, y, refl))

-- values

pub joined_start : (u : Option (List ℕ)) → joined (Some []) u ≡ u
joined_start None = refl
joined_start (Some us) = refl

pub joined_assoc : (u v w : Option (List ℕ)) → joined u (joined v w) ≡ joined (joined u v) w
joined_assoc None v w = refl
joined_assoc (Some us) None w = refl
joined_assoc (Some us) (Some vs) None = refl
joined_assoc (Some us) (Some vs) (Some ws) = ap Some (sym (append_assoc us vs ws))

pub units_append : (ms ns : List (Node Step)) → units_from (ms ++ ns) ≡ joined (units_from ms) (units_from ns)
units_append [] ns = sym (joined_start (units_from ns))
units_append (m ∷ ms) ns =
    let v : Option (List ℕ) = step_value m.what (codes m.leaves) in
    ap (joined v) (units_append ms ns) ∙ joined_assoc v (units_from ms) (units_from ns)

-- faults and marks

pub faults_append : (ms ns : List (Node Step)) → faults_of (ms ++ ns) ≡ faults_of ms ++ faults_of ns
faults_append [] ns = refl
faults_append (m ∷ ms) ns = ap (λ (z : List Fault). step_faults m.what m.from m.to ++ z) (faults_append ms ns) ∙ sym (append_assoc (step_faults m.what m.from m.to) (faults_of ms) (faults_of ns))

or_assoc : (x y z : Bool) → x || (y || z) ≡ (x || y) || z
or_assoc true y z = refl
or_assoc false y z = refl

pub marks_append : (ms ns : List (Node Step)) → any_marks (ms ++ ns) ≡ any_marks ms || any_marks ns
marks_append [] ns = refl
marks_append (m ∷ ms) ns = ap (λ (z : Bool). step_marks m.what || z) (marks_append ms ns) ∙ or_assoc (step_marks m.what) (any_marks ms) (any_marks ns)
