-- A reading without a fault is a derivation, and a derivation is such a reading.
use Rattle.std.proofs.Common.{◌≡◌, ℕ, false, List, [], ◌∷◌, ◌++◌, Some, None, Option, sym, refl, ap, ◌∙◌, subst, ap₂, arith}
use Rattle.grammar.specs.Text.{Text, Spot, over, char}
use Rattle.grammar.specs.Rule.{Rule, only, absent, Ahead, Leaf, codes, Takes, Matches}
use Rattle.grammar.specs.Production.{Character}
use Rattle.grammar.specs.Value.{joined, character_value}
use Rattle.grammar.specs.Literal.{Kind, Body, template, character_rule, Production, double_string, single_string, no_substitution, head, middle, tail, kind_of, opening, body_of, closing, Node, Chain, Derives, Derivable, units_of}
use Rattle.grammar.specs.Reading.{Scan, double_scan, single_scan, template_scan, resumption, opening_of, body_read, Step, proper, bad, step_rule, Ending, closed, substitution, broken, end_rule, Read, Reading, as_steps}
use Rattle.grammar.specs.Outcome.{kind_at, Fault, step_faults, faults_of, end_faults, units_from}
use Rattle.grammar.specs.Laws.{Unfaulted, AcceptsExactly, DerivationsAreRead, CharactersAreSteps, TemplatesFaultAtEnds}
use Rattle.grammar.proofs.Unique.{node_path}
use Rattle.grammar.proofs.Readings.{readings_are_one}

cons_nil : {x : Fault} {xs : List Fault} → x ∷ xs ≡ [] → ⊥
cons_nil e = let z : ◌≡◌ {A = ℕ} 0 1 = cc in omega (arith, z)

none_some : {k : Kind} → None ≡ Some k → ⊥
none_some e = let z : ◌≡◌ {A = ℕ} 0 1 = cc in omega (arith, z)

some_same : {k l : Kind} → Some k ≡ Some l → k ≡ l
some_same e = cc

nil_left : (xs ys : List Fault) → xs ++ ys ≡ [] → xs ≡ []
nil_left [] ys e = refl
nil_left (x ∷ xs) ys e = absurd (cons_nil e)

no_ahead : (s : Spot) → Ahead s (only []) false → ⊥
no_ahead over h = h
no_ahead (char c m) h = h

pub absent_off : (t : Text) (p q : ℕ) (cs : List ℕ) → Matches t p absent cs q → ⊥
absent_off t p q cs x = no_ahead (t p) x.2

-- along a chain

pub to_steps :
    (b : Body) (t : Text) (p q : ℕ) (ns : List (Node Character)) → Chain (character_rule b) t p ns q
    → Chain (step_rule b) t p (as_steps ns) q × (units_from (as_steps ns) ≡ units_of ns) × (faults_of (as_steps ns) ≡ [])
to_steps b t p q [] x = (x, refl, refl)
to_steps b t p q (n ∷ ns) x =
    let (y, v, w) = to_steps b t n.to q ns x.2 in
    ((x.0, x.1, y), ap (joined (character_value n.what (codes n.leaves))) v, w)

-- a step without a fault is a character

character_of :
    (b : Body) (t : Text) (p q : ℕ) (n : Node Step) (ns : List (Node Step)) (w : Step) → n.what ≡ w → faults_of (n ∷ ns) ≡ [] → n.from ≡ p → Takes t p (step_rule b n.what) n.leaves n.to
    → (m : Node Character) × (n ≡ record { what = proper m.what; from = m.from; leaves = m.leaves; to = m.to }) × (m.from ≡ p) × Takes t p (character_rule b m.what) m.leaves n.to × (faults_of ns ≡ [])
character_of b t p q n ns (proper c) e h f x =
    let m : Node Character = record { what = c; from = n.from; leaves = n.leaves; to = n.to } in (
      m,
      node_path n (record { what = proper c; from = n.from; leaves = n.leaves; to = n.to }) e refl refl refl,
      f,
      subst (λ (z : Step). Takes t p (step_rule b z) n.leaves n.to) e x,
      subst (λ (z : Step). step_faults z n.from n.to ++ faults_of ns ≡ []) e h,
    )
character_of b t p q n ns (bad k) e h f x = absurd (cons_nil (subst (λ (z : Step). step_faults z n.from n.to ++ faults_of ns ≡ []) e h))

to_characters : (b : Body) (t : Text) (p q : ℕ) (ns : List (Node Step)) → faults_of ns ≡ [] → Chain (step_rule b) t p ns q → (cs : List (Node Character)) × (ns ≡ as_steps cs) × Chain (character_rule b) t p cs q
to_characters b t p q [] h x = ([], refl, x)
to_characters b t p q (n ∷ ns) h x =
    let (m, e, f, y, k) = character_of b t p q n ns n.what refl h x.0 x.1 in
    let (cs, i, z) = to_characters b t n.to q ns k x.2 in
    let a : n.to ≡ m.to = ap (λ (v : Node Step). v.to) e in
    (m ∷ cs, ap₂ ◌∷◌ e i, (f, subst (λ (v : ℕ). Takes t p (character_rule b m.what) m.leaves v) a y, subst (λ (v : ℕ). Chain (character_rule b) t v cs q) a z))

-- the six productions are the scans that close

record Fit (s : Scan) (e : Ending) (g : Production) : Type 0 where
  opens : opening_of s ≡ opening g
  body : body_read s ≡ body_of g
  close : end_rule (body_read s) e ≡ closing g
  kind : kind_at s e ≡ Some (kind_of g)
  fair : (p q : ℕ) → end_faults e p q ≡ []

abbrev scan_of : Production → Scan
scan_of double_string = double_scan
scan_of single_string = single_scan
scan_of no_substitution = template_scan
scan_of head = template_scan
scan_of middle = resumption
scan_of tail = resumption

abbrev ending_of : Production → Ending
ending_of double_string = closed
ending_of single_string = closed
ending_of no_substitution = closed
ending_of head = substitution
ending_of middle = substitution
ending_of tail = closed

fit_of : (g : Production) → Fit (scan_of g) (ending_of g) g
fit_of double_string = record { opens = refl; body = refl; close = refl; kind = refl; fair = λ p q. refl }
fit_of single_string = record { opens = refl; body = refl; close = refl; kind = refl; fair = λ p q. refl }
fit_of no_substitution = record { opens = refl; body = refl; close = refl; kind = refl; fair = λ p q. refl }
fit_of head = record { opens = refl; body = refl; close = refl; kind = refl; fair = λ p q. refl }
fit_of middle = record { opens = refl; body = refl; close = refl; kind = refl; fair = λ p q. refl }
fit_of tail = record { opens = refl; body = refl; close = refl; kind = refl; fair = λ p q. refl }

fit_by : (s : Scan) (e : Ending) (k : Kind) → kind_at s e ≡ Some k → (g : Production) × Fit s e g
fit_by double_scan closed k h = (double_string, fit_of double_string)
fit_by single_scan closed k h = (single_string, fit_of single_string)
fit_by template_scan closed k h = (no_substitution, fit_of no_substitution)
fit_by resumption closed k h = (tail, fit_of tail)
fit_by double_scan substitution k h = absurd (none_some h)
fit_by single_scan substitution k h = absurd (none_some h)
fit_by template_scan substitution k h = (head, fit_of head)
fit_by resumption substitution k h = (middle, fit_of middle)
fit_by double_scan (broken j) k h = absurd (none_some h)
fit_by single_scan (broken j) k h = absurd (none_some h)
fit_by template_scan (broken j) k h = absurd (none_some h)
fit_by resumption (broken j) k h = absurd (none_some h)

derivable : (t : Text) (r : Read) (k : Kind) (e : ℕ) (u : Option (List ℕ)) → Reading t r → Unfaulted r k e u → Derivable t r.from k e u
derivable t r k e u x h =
    let b : Body = body_read r.scan in
    let (g, f) = fit_by r.scan r.ending k h.of_kind in
    let (cs, i, c) = to_characters b t r.start r.stop r.steps (nil_left (faults_of r.steps) (end_faults r.ending r.from r.to) h.faultless) x.stepped in
    let (y, v, w) = to_steps b t r.start r.stop cs c in (
      record { production = g; from = r.from; opens = r.opens; start = r.start; characters = cs; close = r.stop; closes = r.ends; to = r.to },
      record {
        derives = record {
          opened = subst (λ (z : Rule). Takes t r.from z r.opens r.start) f.opens x.opened;
          inside = subst (λ (z : Body). Chain (character_rule z) t r.start cs r.stop) f.body c;
          closed = subst (λ (z : Rule). Takes t r.stop z r.ends r.to) f.close x.ended;
        };
        starts = refl;
        of_kind = some_same (sym f.kind ∙ h.of_kind);
        ends = h.ends;
        valued = sym v ∙ ap units_from (sym i) ∙ h.valued;
      },
    )

pub derivations_are_read : DerivationsAreRead
derivations_are_read t start k e d u y =
    let x : Derives t d = y.derives in
    let g : Production = d.production in
    let f = fit_of g in
    let (c, v, w) = to_steps (body_read (scan_of g)) t d.start d.close d.characters (subst (λ (z : Body). Chain (character_rule z) t d.start d.characters d.close) (sym f.body) x.inside) in (
      record { scan = scan_of g; from = d.from; opens = d.opens; start = d.start; steps = as_steps d.characters; stop = d.close; ending = ending_of g; ends = d.closes; to = d.to },
      record {
        opened = subst (λ (z : Rule). Takes t d.from z d.opens d.start) (sym f.opens) x.opened;
        stepped = c;
        ended = subst (λ (z : Rule). Takes t d.close z d.closes d.to) (sym f.close) x.closed;
      },
      y.starts,
      record { faultless = ap₂ ◌++◌ w (f.fair d.from d.to); of_kind = f.kind ∙ ap Some y.of_kind; ends = y.ends; valued = v ∙ y.valued },
      refl,
    )

pub accepts_exactly : AcceptsExactly
accepts_exactly t r k e u x = (
  (λ h. derivable t r k e u x h),
  (λ h. let (s, y, f, v, i) = derivations_are_read t r.from k e h.0 u h.1 in subst (λ (z : Read). Unfaulted z k e u) (readings_are_one t s r f y x) v),
)

pub characters_are_steps : CharactersAreSteps
characters_are_steps t r k e d u x y = let (s, z, f, v, i) = derivations_are_read t r.from k e d u y in ap (λ (w : Read). w.steps) (sym (readings_are_one t s r f z x)) ∙ i

-- in a template no step is bad

template_step : (t : Text) (p q : ℕ) (s : Step) (a c : ℕ) (ls : List Leaf) → Takes t p (step_rule template s) ls q → step_faults s a c ≡ []
template_step t p q (proper k) a c ls x = refl
template_step t p q (bad k) a c ls x = absurd (absent_off t p q (codes ls) x.matches)

template_steps : (t : Text) (p q : ℕ) (ns : List (Node Step)) → Chain (step_rule template) t p ns q → faults_of ns ≡ []
template_steps t p q [] x = refl
template_steps t p q (n ∷ ns) x = ap₂ ◌++◌ (template_step t p n.to n.what n.from n.to n.leaves x.1) (template_steps t n.to q ns x.2)

pub templates_fault_at_ends : TemplatesFaultAtEnds
templates_fault_at_ends t r x b =
    ap (λ (z : List Fault). z ++ end_faults r.ending r.from r.to) (template_steps t r.start r.stop r.steps (subst (λ (z : Body). Chain (step_rule z) t r.start r.steps r.stop) b x.stepped))
