-- What derivations and readings tell: the script between the delimiters, faults, and units. Assumes nothing.
use Rattle.std.proofs.Common.{◌≡◌, ℕ, Bool, true, false, cond, ◌&&◌, ◌||◌, T, leb, ◌⊎◌, List, [], ◌∷◌, ◌++◌, get_or, is_some as option_is_some, Some, None, Option, sym, refl, ap, ◌∙◌, subst, ap₂, inl, inr, ⊎_elim, arith}
use Rattle.std.proofs.lemmas.Bool.{leb-true}
use Rattle.grammar.specs.Text.{Text, char}
use Rattle.grammar.specs.Utf8.{utf8}
use Rattle.grammar.specs.Rule.{Class, but, member, ◌▸◌, ahead, Matches, codes}
use Rattle.grammar.specs.Production.{Character, source_character, line_separator, paragraph_separator, dollar, escape, not_escape, line_continuation, line_terminator, lf, cr, ls, ps, crlf}
use Rattle.grammar.specs.Production.{points, chars, line_terminators, this, string_character, template_character}
use Rattle.grammar.specs.Value.{utf16, character_value, joined}
use Rattle.grammar.specs.Literal.{Kind, str, no_substitution_template, template_head, template_middle, template_tail, Body, double, single, template, character_rule, Node, Tree, Chain, Derivation, units_of, body_of}
use Rattle.grammar.specs.Reading.{Scan, double_scan, single_scan, template_scan, resumption, body_read, Step, proper, bad, step_rule, Ending, closed, substitution, broken, Read, Reading, as_steps}
use Rattle.grammar.specs.Outcome as outcome
use Rattle.grammar.specs.Outcome.{kind_at, kind_read, marks, any_marks, mark_read, faults_read, end_faults, units_from, units_read}
use Rattle.grammar.proofs.Exact.{absent_off, characters_are_steps, templates_fault_at_ends}
use Rattle.tokens.specs.declared.Kind as code
use Rattle.tokens.specs.declared.Kind.TheVariants.{Undetermined, Str, NoSubstitutionTemplate, TemplateHead, TemplateMiddle, TemplateTail}
use Rattle.tokens.specs.Grammar.{named, recorded}
use Rattle.ledger.specs.Life.{Spells, in_utf16, Verbatim}
use Rattle.ledger.specs.Ledger.{sort_of, of_string, in_strings}

pub some_none {ℓ} : {A : Type 0} {X : Type ℓ} {a : A} → Some a ≡ None → X
some_none {A} e = absurd (subst is_some e tt)
  where
    is_some : Option A → Type 0
    is_some None = ⊥
    is_some (Some a) = Unit {0}

pub some_same : {A : Type 0} {a b : A} → Some a ≡ Some b → a ≡ b
some_same e = cc

pub true_false {ℓ} : {X : Type ℓ} → true ≡ false → X
true_false e = absurd (subst T e tt)

-- THE NAME OF A KIND tells the kind

unnamed : code.Kind → Option Kind
unnamed Undetermined = None
unnamed Str = Some str
unnamed NoSubstitutionTemplate = Some no_substitution_template
unnamed TemplateHead = Some template_head
unnamed TemplateMiddle = Some template_middle
unnamed TemplateTail = Some template_tail

back : (o : Option Kind) → unnamed (named o) ≡ o
unfolding unnamed
back None = refl
back (Some str) = refl
back (Some no_substitution_template) = refl
back (Some template_head) = refl
back (Some template_middle) = refl
back (Some template_tail) = refl

pub named_same : (o p : Option Kind) → named o ≡ named p → o ≡ p
named_same o p e = sym (back o) ∙ ap unnamed e ∙ back p

pub none_recorded : (fs : List outcome.Fault) → recorded fs ≡ [] → fs ≡ []
none_recorded [] e = refl
none_recorded (f ∷ fs) e = let z : ◌≡◌ {A = ℕ} 0 1 = cc in absurd (omega arith)

-- THE SCRIPT BETWEEN THE DELIMITERS

this_is : (x c : ℕ) → T (member x (this c)) → x ≡ c
this_is x c h = let (a, b) = both (leb c x) (leb x c) h in let u = leb-true c x a in let v = leb-true x c b in omega arith
  where
    both : (a b : Bool) → T ((a && b) || false) → (a ≡ true) × (b ≡ true)
    both true true h = (refl, refl)
    both true false h = absurd h
    both false b h = absurd h

module _ (t : Text) (p q : ℕ) (cs : List ℕ) where
  -- one character of a class, and something asked behind it
  one_char : (k l : Class) (e : Bool) → Matches t p (k ▸ ahead l e) cs q → (x : ℕ) × (t p ≡ char x q) × (cs ≡ x ∷ []) × T (member x k)
  one_char k l e (c, n, es, at, is, in_k, rest) = (c, at ∙ ap (char c) rest.1, is ∙ ap (λ z. c ∷ z) rest.0, in_k)

  Plain : Character → Type 0
  Plain c = (x : ℕ) × (t p ≡ char x q) × (character_value c cs ≡ Some (utf16 x))

  source_plain : (k l : Class) (e : Bool) → Matches t p (k ▸ ahead l e) cs q → Plain source_character
  unfolding Plain
  source_plain k l e h = let (x, at, is, in_k) = one_char k l e h in (x, at, ap (λ z. Some (utf16 (get_or z 0 0))) is)

  given_plain : (n : ℕ) (l : Class) (e : Bool) → utf16 n ≡ n ∷ [] → Matches t p (this n ▸ ahead l e) cs q → (x : ℕ) × (t p ≡ char x q) × (Some (n ∷ []) ≡ Some (utf16 x))
  given_plain n l e un h = let (x, at, is, in_k) = one_char (this n) l e h in (x, at, ap Some (sym un ∙ ap utf16 (sym (this_is x n in_k))))

  string_plain : (quote : ℕ) (c : Character) → marks c ≡ false → Matches t p (string_character quote c) cs q → Plain c
  unfolding Plain
  string_plain v source_character m h = source_plain (but (points (v ∷ []) ++ chars "\\" ++ line_terminators)) (but []) true h
  string_plain v line_separator m h = given_plain 8232 _ _ refl h
  string_plain v paragraph_separator m h = given_plain 8233 _ _ refl h
  string_plain v dollar m h = absurd (absent_off t p q cs h)
  string_plain v (escape e) m h = true_false m
  string_plain v (not_escape n) m h = true_false m
  string_plain v (line_continuation l) m h = true_false m
  string_plain v (line_terminator l) m h = absurd (absent_off t p q cs h)

  template_plain : (c : Character) → marks c ≡ false → Matches t p (template_character c) cs q → Plain c
  unfolding Plain
  template_plain source_character m h = source_plain (but (chars "`\\$" ++ line_terminators)) (but []) true h
  template_plain line_separator m h = absurd (absent_off t p q cs h)
  template_plain paragraph_separator m h = absurd (absent_off t p q cs h)
  template_plain dollar m h = given_plain 36 _ _ refl h
  template_plain (escape e) m h = true_false m
  template_plain (not_escape n) m h = true_false m
  template_plain (line_continuation l) m h = true_false m
  template_plain (line_terminator lf) m h = given_plain 10 _ _ refl h
  template_plain (line_terminator cr) m h = true_false m
  template_plain (line_terminator ls) m h = given_plain 8232 _ _ refl h
  template_plain (line_terminator ps) m h = given_plain 8233 _ _ refl h
  template_plain (line_terminator crlf) m h = true_false m

  plain : (b : Body) (c : Character) → marks c ≡ false → Matches t p (character_rule b c) cs q → Plain c
  plain double c m h = string_plain 34 c m h
  plain single c m h = string_plain 39 c m h
  plain template c m h = template_plain c m h

either_false : (a b : Bool) → (a || b) ≡ false → (a ≡ false) × (b ≡ false)
either_false true b e = true_false e
either_false false b e = (refl, e)

chain_spells : (b : Body) (t : Text) (p q : ℕ) (ns : List (Node Character)) → any_marks (as_steps ns) ≡ false → Chain (character_rule b) t p ns q → (cs : List ℕ) × Spells t p cs q × (units_of ns ≡ Some (in_utf16 cs))
unfolding Plain
chain_spells b t p q [] m h = ([], h, refl)
chain_spells b t p q (n ∷ ns) m h =
    let (m₁, m₂) = either_false (marks n.what) (any_marks (as_steps ns)) m in
    let (x, at, val) = plain t p n.to (codes n.leaves) b n.what m₁ h.1.matches in
    let (cs, sp, us) = chain_spells b t n.to q ns m₂ h.2 in
    (x ∷ cs, (n.to, at, sp), ap₂ joined val us)

-- an unmarked derivation is verbatim
pub verbatim_is :
    (text : List ℕ) (r : Read) (k : Kind) (e : ℕ) (d : Tree) (u : Option (List ℕ)) → Reading (utf8 text) r → Derivation (utf8 text) r.from k e d u → any_marks r.steps ≡ false → Verbatim text d u
verbatim_is text r k e d u x y m =
    let bare = ap any_marks (sym (characters_are_steps (utf8 text) r k e d u x y)) ∙ m in
    let (cs, sp, us) = chain_spells (body_of d.production) (utf8 text) d.start d.close d.characters bare y.derives.inside in
    (cs, sp, sym y.valued ∙ us)

pub unmarked_steps : (r : Read) (k : Kind) → kind_read r ≡ Some k → mark_read r ≡ false → any_marks r.steps ≡ false
unmarked_steps r k h m = ap (λ (o : Option Kind). cond (option_is_some o) (any_marks r.steps) false) (sym h) ∙ m

-- FAULTS: a literal of a kind has none, given none for a string

no_end_faults : (s : Scan) (e : Ending) (k : Kind) (p q : ℕ) → kind_at s e ≡ Some k → end_faults e p q ≡ []
no_end_faults s closed k p q h = refl
no_end_faults s substitution k p q h = refl
no_end_faults double_scan (broken b) k p q h = some_none (sym h)
no_end_faults single_scan (broken b) k p q h = some_none (sym h)
no_end_faults template_scan (broken b) k p q h = some_none (sym h)
no_end_faults resumption (broken b) k p q h = some_none (sym h)

sorted : (s : Scan) (e : Ending) (k : Kind) → kind_at s e ≡ Some k → (k ≡ str) ⊎ (body_read s ≡ template)
sorted double_scan closed k h = inl (sym (some_same h))
sorted single_scan closed k h = inl (sym (some_same h))
sorted template_scan e k h = inr refl
sorted resumption e k h = inr refl
sorted double_scan substitution k h = some_none (sym h)
sorted single_scan substitution k h = some_none (sym h)
sorted double_scan (broken b) k h = some_none (sym h)
sorted single_scan (broken b) k h = some_none (sym h)

pub faultless_by : (t : Text) (r : Read) (k : Kind) → Reading t r → kind_read r ≡ Some k → (k ≡ str → faults_read r ≡ []) → faults_read r ≡ []
faultless_by t r k x h o =
    ⊎_elim o (λ b. templates_fault_at_ends t r x b ∙ no_end_faults r.scan r.ending k r.from r.to h) (sorted r.scan r.ending k h)

-- UNITS: a string always has them

string_cooked_character : (v : ℕ) (c : Character) (t : Text) (p q : ℕ) (cs : List ℕ) → Matches t p (string_character v c) cs q → (us : List ℕ) × (character_value c cs ≡ Some us)
string_cooked_character v source_character t p q cs h = (_, refl)
string_cooked_character v line_separator t p q cs h = (_, refl)
string_cooked_character v paragraph_separator t p q cs h = (_, refl)
string_cooked_character v dollar t p q cs h = (_, refl)
string_cooked_character v (escape e) t p q cs h = (_, refl)
string_cooked_character v (not_escape n) t p q cs h = absurd (absent_off t p q cs h)
string_cooked_character v (line_continuation l) t p q cs h = (_, refl)
string_cooked_character v (line_terminator l) t p q cs h = (_, refl)

cooked_step : (b : Body) (s : Step) (t : Text) (p q : ℕ) (cs : List ℕ) → (b ≡ template → ⊥) → Matches t p (step_rule b s) cs q → (us : List ℕ) × (outcome.step_value s cs ≡ Some us)
cooked_step double (proper c) t p q cs n h = string_cooked_character 34 c t p q cs h
cooked_step single (proper c) t p q cs n h = string_cooked_character 39 c t p q cs h
cooked_step template (proper c) t p q cs n h = absurd (n refl)
cooked_step b (bad e) t p q cs n h = ([], refl)

cooked_chain : (b : Body) (t : Text) (p q : ℕ) (ns : List (Node Step)) → (b ≡ template → ⊥) → Chain (step_rule b) t p ns q → (us : List ℕ) × (units_from ns ≡ Some us)
cooked_chain b t p q [] n h = ([], refl)
cooked_chain b t p q (s ∷ ns) n h =
    let (us, e) = cooked_step b s.what t p s.to (codes s.leaves) n h.1.matches in
    let (vs, f) = cooked_chain b t s.to q ns n h.2 in
    (us ++ vs, ap₂ joined e f)

abbrev Other : Body → Type 0
Other double = Unit {0}
Other single = Unit {0}
Other template = ⊥

string_body : (s : Scan) → of_string (sort_of s) ≡ true → body_read s ≡ template → ⊥
string_body double_scan h e = subst Other e tt
string_body single_scan h e = subst Other e tt
string_body template_scan h e = true_false (sym h)
string_body resumption h e = true_false (sym h)

pub string_cooked : (t : Text) (r : Read) → Reading t r → in_strings r ≡ true → (us : List ℕ) × (units_read r ≡ Some us)
string_cooked t r x h = cooked_chain (body_read r.scan) t r.start r.stop r.steps (string_body r.scan h) x.stepped
