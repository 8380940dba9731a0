-- The escape read behind a backslash, as steps of a reading. Assumes nothing.
use Rattle.std.proofs.lemmas.List.{append-nil}
use Rattle.std.proofs.Common.{◌≡◌, ℕ, ◌<◌, Bool, true, false, ◌||◌, List, [], ◌∷◌, ◌++◌, drop, Some, None, Option, Ok, Err, Result, sym, refl, ap, ◌∙◌, subst, inl, inr}
use Rattle.grammar.specs.Text.{Text, Spot, over, char}
use Rattle.grammar.specs.Utf8.{utf8}
use Rattle.grammar.specs.Rule.{Rule, ◌▸◌, only, absent, Ahead, Matches, mv, codes}
use Rattle.grammar.specs.Production.{LineTerminatorSequence, line_terminator_sequence, EscapeSequence, unicode_hex4, escape_sequence, not_escape_sequence, one_of}
use Rattle.grammar.specs.Production.{Character, source_character, line_separator, paragraph_separator, dollar, escape, not_escape, line_continuation, line_terminator}
use Rattle.grammar.specs.Value.{character_value, joined}
use Rattle.grammar.specs.Literal.{Body, double, single, template}
use Rattle.grammar.specs.Recovery.{bad_escape}
use Rattle.grammar.specs.Reading.{Step, proper, bad, step_rule}
use Rattle.grammar.specs.Outcome.{Fault, step_value, step_faults, step_marks, units_from, faults_of, any_marks, marks}
use Rattle.grammar.proofs.Chains.{chain_append, units_append, faults_append, marks_append}
use Rattle.grammar.proofs.Leaves.{takes}
use Rattle.escapes.specs.Places.{At}
use Rattle.escapes.specs.Escapes.{behind_rule, Alone, Joined, Wrong, Behind, Part, is_template, units_told, faults_told, EscapeRead, listed, reached}
use Rattle.escapes.specs.declared.unicode.Given.{Given}
use Rattle.escapes.specs.declared.unicode.Invalid.{Invalid}

joined_nil : (u : Option (List ℕ)) → joined u (Some []) ≡ u
joined_nil None = refl
joined_nil (Some us) = ap Some (append-nil us)

-- one step, as a part of a reading
pub one_step : (body : Body) (t : Text) (what : Step) (p q : ℕ) (cs : List ℕ) → Matches t p (step_rule body what) cs q → Part body t p (step_value what cs) (step_faults what p q) (step_marks what) q
one_step body t what p q cs x =
    let (ls, e, y) = takes (step_rule body what) t p cs q x in
    record {
      nodes = record { what = what; from = p; leaves = ls; to = q } ∷ [];
      chain = (refl, y, refl);
      units = joined_nil (step_value what (codes ls)) ∙ ap (step_value what) e;
      faulted = append-nil (step_faults what p q);
      marked = or_false (step_marks what);
    }
  where
    or_false : (b : Bool) → (b || false) ≡ b
    or_false true = refl
    or_false false = refl

-- two parts in a row
pub part_join :
    (body : Body) (t : Text) (p m q : ℕ) (u v : Option (List ℕ)) (fs gs : List Fault) (a b : Bool) → Part body t p u fs a m → Part body t m v gs b q → Part body t p (joined u v) (fs ++ gs) (a || b) q
part_join body t p m q u v fs gs a b x y =
    record {
      nodes = x.nodes ++ y.nodes;
      chain = chain_append (step_rule body) t p m q x.nodes y.nodes x.chain y.chain;
      units = units_append x.nodes y.nodes ∙ ap (λ z. joined z (units_from y.nodes)) x.units ∙ ap (joined u) y.units;
      faulted = faults_append x.nodes y.nodes ∙ ap (λ z. z ++ faults_of y.nodes) x.faulted ∙ ap (λ z. fs ++ z) y.faulted;
      marked = marks_append x.nodes y.nodes ∙ ap (λ z. z || any_marks y.nodes) x.marked ∙ ap (λ z. a || z) y.marked;
    }

-- nothing, as a part
pub no_step : (body : Body) (t : Text) (p : ℕ) → Part body t p (Some []) [] false p
no_step body t p = record { nodes = []; chain = refl; units = refl; faulted = refl; marked = refl }

-- THE BACKSLASH BEFORE AN ESCAPE

absent_off : {A : Type 0} (t : Text) (p q : ℕ) (cs : List ℕ) → Matches t p absent cs q → A
absent_off t p q cs x = absurd (no_ahead (t p) x.2)
  where
    no_ahead : (s : Spot) → Ahead s (only []) false → ⊥
    no_ahead over h = h
    no_ahead (char c m) h = h

-- what follows a backslash, with it
with_backslash : (t : Text) (b p q : ℕ) (r : Rule) (cs : List ℕ) → t b ≡ char 92 p → Matches t p r cs q → Matches t b (one_of "\\" ▸ r) (92 ∷ cs) q
with_backslash t b p q r cs e x = (92, p, cs, e, refl, tt, x)

escape_rule : (body : Body) (e : EscapeSequence) → step_rule body (proper (escape e)) ≡ (one_of "\\" ▸ behind_rule (is_template body) (escape e))
escape_rule double e = refl
escape_rule single e = refl
escape_rule template e = refl

continuation_rule : (body : Body) (l : LineTerminatorSequence) → step_rule body (proper (line_continuation l)) ≡ (one_of "\\" ▸ line_terminator_sequence l)
continuation_rule double l = refl
continuation_rule single l = refl
continuation_rule template l = refl

-- a step of the grammar behind its backslash
proper_part :
    (body : Body) (t : Text) (what : Character) (b p q : ℕ) (cs us : List ℕ) → step_rule body (proper what) ≡ (one_of "\\" ▸ behind_rule (is_template body) what) → marks what ≡ true → t b ≡ char 92 p
    → Matches t p (behind_rule (is_template body) what) cs q → character_value what (92 ∷ cs) ≡ Some us → Part body t b (Some us) [] true q
proper_part body t what b p q cs us r k e x u =
    let y = one_step body t (proper what) b q (92 ∷ cs) (subst (λ (z : Rule). Matches t b z (92 ∷ cs) q) (sym r) (with_backslash t b p q (behind_rule (is_template body) what) cs e x)) in
    record { nodes = y.nodes; chain = y.chain; units = y.units ∙ u; faulted = y.faulted; marked = y.marked ∙ k }

alone_part : (body : Body) (t : Text) (b p q : ℕ) (us : List ℕ) → t b ≡ char 92 p → Alone (is_template body) t p us q → Part body t b (Some us) [] true q
alone_part body t b p q us e x = go x.what x.matches x.units
  where
    go : (what : Character) → Matches t p (behind_rule (is_template body) what) x.chars q → character_value what (92 ∷ x.chars) ≡ Some us → Part body t b (Some us) [] true q
    go (escape k) m u = proper_part body t (escape k) b p q x.chars us (escape_rule body k) refl e m u
    go (line_continuation l) m u = proper_part body t (line_continuation l) b p q x.chars us (continuation_rule body l) refl e m u
    go (not_escape n) m u = absent_off t p q x.chars m
    go source_character m u = absent_off t p q x.chars m
    go line_separator m u = absent_off t p q x.chars m
    go paragraph_separator m u = absent_off t p q x.chars m
    go dollar m u = absent_off t p q x.chars m
    go (line_terminator l) m u = absent_off t p q x.chars m

four_rule : (body : Body) → behind_rule (is_template body) (escape unicode_hex4) ≡ escape_sequence unicode_hex4
four_rule double = refl
four_rule single = refl
four_rule template = refl

joined_part : (body : Body) (t : Text) (b p q : ℕ) (us : List ℕ) → t b ≡ char 92 p → Joined t p us q → Part body t b (Some us) [] true q
joined_part body t b p q us e x =
    let half : (b p q : ℕ) (cs : List ℕ) → t b ≡ char 92 p → Matches t p (escape_sequence unicode_hex4) cs q → Part body t b (Some (mv 16 (drop 1 cs) ∷ [])) [] true q =
    λ b p q cs e m. proper_part body t (escape unicode_hex4) b p q cs (mv 16 (drop 1 cs) ∷ []) (escape_rule body unicode_hex4) refl e (subst (λ (r : Rule). Matches t p r cs q) (sym (four_rule body)) m) refl in
    let y = part_join body t b x.middle q _ _ _ _ _ _ (half b p x.middle x.highs e x.first_matches) (half x.middle x.second q x.lows x.backslash x.second_matches) in
    record { nodes = y.nodes; chain = y.chain; units = y.units ∙ ap Some (sym x.units); faulted = y.faulted; marked = y.marked }

wrong_part : (body : Body) (t : Text) (b p : ℕ) (e : Invalid) → t b ≡ char 92 p → Wrong (is_template body) t p e.next → Part body t b (units_told (is_template body) (Err e)) (faults_told (is_template body) b (Err e)) true e.next
wrong_part double t b p e i (k, cs, m) = one_step double t (bad k) b e.next (92 ∷ cs) (with_backslash t b p e.next (bad_escape k) cs i m)
wrong_part single t b p e i (k, cs, m) = one_step single t (bad k) b e.next (92 ∷ cs) (with_backslash t b p e.next (bad_escape k) cs i m)
wrong_part template t b p e i (n, cs, m) = one_step template t (proper (not_escape n)) b e.next (92 ∷ cs) (with_backslash t b p e.next (not_escape_sequence n) cs i m)

part_of : (bs : List ℕ) (p : ℕ) (e : Result Given Invalid) (body : Body) → Behind (is_template body) bs p e → (b : ℕ) → utf8 bs b ≡ char 92 p → Part body (utf8 bs) b (units_told (is_template body) e) (faults_told (is_template body) b e) true (reached e)
part_of bs p (Ok g) body (inl x, _, _) b h = alone_part body (utf8 bs) b p g.next (listed g.units) h x
part_of bs p (Ok g) body (inr x, _, _) b h = joined_part body (utf8 bs) b p g.next (listed g.units) h x
part_of bs p (Err e) body (x, _, _) b h = wrong_part body (utf8 bs) b p e h x

behind_at : (m : Bool) (bs : List ℕ) (p : ℕ) (e : Result Given Invalid) → Behind m bs p e → At bs (reached e) × (p < reached e)
behind_at m bs p (Ok g) x = (x.1, x.2)
behind_at m bs p (Err e) x = (x.1, x.2)

pub escape_read : (m : Bool) (bs : List ℕ) (p : ℕ) (e : Result Given Invalid) → Behind m bs p e → EscapeRead m bs p (Some e)
escape_read m bs p e x =
    let a = behind_at m bs p e x in (
      (λ body b i h. subst (λ (z : Bool). Part body (utf8 bs) b (units_told z e) (faults_told z b e) true (reached e)) i (part_of bs p e body (subst (λ (z : Bool). Behind z bs p e) (sym i) x) b h)),
      a.0,
      a.1,
    )
