-- Any two derivations from one start are the same.
use Rattle.std.proofs.Common.{◌≡◌, ℕ, T, List, [], ◌∷◌, sym, refl, ap, ◌∙◌, subst, ap₂, subst₂}
use Rattle.grammar.specs.Text.{Text}
use Rattle.grammar.specs.Rule.{Rule, Leaf, codes, Takes}
use Rattle.grammar.specs.Literal.{Body, character_rule, Production, double_string, single_string, no_substitution, head, middle, tail, kind_of, opening, body_of, closing, Node, Tree, Chain, Derives, units_of}
use Rattle.grammar.specs.Laws.{DerivationsAreOne}
use Rattle.grammar.proofs.Apart.{apart, settled, apart_off}
use Rattle.grammar.proofs.Leaves.{takes_same}
use Rattle.grammar.proofs.Listing.{Listing}
use Rattle.grammar.proofs.Table.{Clear, Ends, one_entry, settled_entry, no_entry}
use Rattle.grammar.proofs.Characters.{characters, characters_clear, closing_ends}

pub node_path : {A : Type 0} (m n : Node A) → m.what ≡ n.what → m.from ≡ n.from → m.leaves ≡ n.leaves → m.to ≡ n.to → m ≡ n
node_path m n a b c d i = record { what = a i; from = b i; leaves = c i; to = d i }

node_same :
    {A : Type 0} (l : Listing A) (f : A → Rule) → Clear l f → (t : Text) (p : ℕ) (m n : Node A) → m.from ≡ p → n.from ≡ p → Takes t p (f m.what) m.leaves m.to
    → Takes t p (f n.what) n.leaves n.to → m ≡ n
node_same {A} l f k t p m n i j x y =
    let w = one_entry l f k t p m.what n.what m.leaves n.leaves m.to n.to x y in
    let (c, e) = takes_same (f n.what) (settled_entry l f k n.what) t p m.leaves n.leaves m.to n.to (subst (λ (z : A). Takes t p (f z) m.leaves m.to) w x) y in
    node_path m n w (i ∙ sym j) c e

-- two chains that both go on to where a rule takes something that none of the table meets
pub chain_same :
    {A : Type 0} (l : Listing A) (f : A → Rule) → Clear l f → (r s : Rule) → Ends l f r → Ends l f s → (t : Text) (p : ℕ) (ms ns : List (Node A)) (q u : ℕ) (ks hs : List Leaf) (v w : ℕ)
    → Chain f t p ms q → Takes t q r ks v → Chain f t p ns u → Takes t u s hs w → (ms ≡ ns) × (q ≡ u)
chain_same l f c r s a b t p [] [] q u ks hs v w x k y h = (refl, sym x ∙ y)
chain_same l f c r s a b t p [] (n ∷ ns) q u ks hs v w x k y h =
    absurd (no_entry l f r a t p n.what n.leaves ks n.to v y.1 (subst (λ (z : ℕ). Takes t z r ks v) (sym x) k))
chain_same l f c r s a b t p (m ∷ ms) [] q u ks hs v w x k y h =
    absurd (no_entry l f s b t p m.what m.leaves hs m.to w x.1 (subst (λ (z : ℕ). Takes t z s hs w) (sym y) h))
chain_same {A} l f c r s a b t p (m ∷ ms) (n ∷ ns) q u ks hs v w x k y h =
    let e = node_same l f c t p m n x.0 y.0 x.1 y.1 in
    let (i, j) = chain_same l f c r s a b t n.to ms ns q u ks hs v w (subst (λ (z : Node A). Chain f t z.to ms q) e x.2) k y.2 h in
    (ap₂ ◌∷◌ e i, j)

-- two productions are one, or open apart, or open alike with one body and close apart

data Told (g h : Production) : Type 0 where
  same : g ≡ h → Told g h
  opens_apart : T (apart (opening g) (opening h)) → Told g h
  closes_apart : opening g ≡ opening h → body_of g ≡ body_of h → T (apart (closing g) (closing h)) → Told g h

told : (g h : Production) → Told g h
told double_string double_string = same refl
told double_string single_string = opens_apart tt
told double_string no_substitution = opens_apart tt
told double_string head = opens_apart tt
told double_string middle = opens_apart tt
told double_string tail = opens_apart tt
told single_string double_string = opens_apart tt
told single_string single_string = same refl
told single_string no_substitution = opens_apart tt
told single_string head = opens_apart tt
told single_string middle = opens_apart tt
told single_string tail = opens_apart tt
told no_substitution double_string = opens_apart tt
told no_substitution single_string = opens_apart tt
told no_substitution no_substitution = same refl
told no_substitution head = closes_apart refl refl tt
told no_substitution middle = opens_apart tt
told no_substitution tail = opens_apart tt
told head double_string = opens_apart tt
told head single_string = opens_apart tt
told head no_substitution = closes_apart refl refl tt
told head head = same refl
told head middle = opens_apart tt
told head tail = opens_apart tt
told middle double_string = opens_apart tt
told middle single_string = opens_apart tt
told middle no_substitution = opens_apart tt
told middle head = opens_apart tt
told middle middle = same refl
told middle tail = closes_apart refl refl tt
told tail double_string = opens_apart tt
told tail single_string = opens_apart tt
told tail no_substitution = opens_apart tt
told tail head = opens_apart tt
told tail middle = closes_apart refl refl tt
told tail tail = same refl

settled_opening : (g : Production) → T (settled (opening g))
settled_opening double_string = tt
settled_opening single_string = tt
settled_opening no_substitution = tt
settled_opening head = tt
settled_opening middle = tt
settled_opening tail = tt

settled_closing : (g : Production) → T (settled (closing g))
settled_closing double_string = tt
settled_closing single_string = tt
settled_closing no_substitution = tt
settled_closing head = tt
settled_closing middle = tt
settled_closing tail = tt

tree_path :
    (d e : Tree) → d.production ≡ e.production → d.from ≡ e.from → d.opens ≡ e.opens → d.start ≡ e.start → d.characters ≡ e.characters → d.close ≡ e.close
    → d.closes ≡ e.closes → d.to ≡ e.to → d ≡ e
tree_path d e a b c f g h k l i = record { production = a i; from = b i; opens = c i; start = f i; characters = g i; close = h i; closes = k i; to = l i }

-- trees that open alike are alike up to the closing
alike :
    (t : Text) (d e : Tree) → opening d.production ≡ opening e.production → body_of d.production ≡ body_of e.production → d.from ≡ e.from → Derives t d → Derives t e
    → (d.opens ≡ e.opens) × (d.start ≡ e.start) × (d.characters ≡ e.characters) × (d.close ≡ e.close)
alike t d e r b f x y =
    let g : Production = d.production in
    let h : Production = e.production in
    let (o, s) = takes_same (opening h) (settled_opening h) t e.from d.opens e.opens d.start e.start
    (subst₂ (λ (z : ℕ) (w : Rule). Takes t z w d.opens d.start) f r x.opened) y.opened in
    let (n, c) = chain_same characters (character_rule (body_of h)) (characters_clear (body_of h)) (closing g) (closing h)
    (subst (λ (z : Body). Ends characters (character_rule z) (closing g)) b (closing_ends g)) (closing_ends h) t e.start d.characters e.characters d.close e.close
    d.closes e.closes d.to e.to (subst₂ (λ (z : ℕ) (w : Body). Chain (character_rule w) t z d.characters d.close) s b x.inside) x.closed y.inside y.closed in
    (o, s, n, c)

tree_by : (t : Text) (d e : Tree) → Told d.production e.production → d.from ≡ e.from → Derives t d → Derives t e → d ≡ e
tree_by t d e (same g) f x y =
    let (o, s, n, c) = alike t d e (ap opening g) (ap body_of g) f x y in
    let (k, l) = takes_same (closing e.production) (settled_closing e.production) t e.close d.closes e.closes d.to e.to
    (subst₂ (λ (z : Production) (w : ℕ). Takes t w (closing z) d.closes d.to) g c x.closed) y.closed in
    tree_path d e g f o s n c k l
tree_by t d e (opens_apart h) f x y =
    absurd (apart_off (opening d.production) (opening e.production) h t e.from (codes d.opens) (codes e.opens) d.start e.start
    (subst (λ (z : ℕ). Takes t z (opening d.production) d.opens d.start) f x.opened).matches y.opened.matches)
tree_by t d e (closes_apart r b h) f x y =
    let (o, s, n, c) = alike t d e r b f x y in
    absurd (apart_off (closing d.production) (closing e.production) h t e.close (codes d.closes) (codes e.closes) d.to e.to
    (subst (λ (z : ℕ). Takes t z (closing d.production) d.closes d.to) c x.closed).matches y.closed.matches)

pub tree_same : (t : Text) (d e : Tree) → d.from ≡ e.from → Derives t d → Derives t e → d ≡ e
tree_same t d e f x y = tree_by t d e (told d.production e.production) f x y

pub derivations_are_one : DerivationsAreOne
derivations_are_one t p k₁ k₂ e₁ e₂ d₁ d₂ u₁ u₂ x y =
    let s = tree_same t d₁ d₂ (x.starts ∙ sym y.starts) x.derives y.derives in (
      sym x.of_kind ∙ ap (λ (z : Tree). kind_of z.production) s ∙ y.of_kind,
      sym x.ends ∙ ap (λ (z : Tree). z.to) s ∙ y.ends,
      s,
      sym x.valued ∙ ap (λ (z : Tree). units_of z.characters) s ∙ y.valued,
    )
