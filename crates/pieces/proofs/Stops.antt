-- What stops a run of plain characters. Assumes nothing.
use Rattle.std.proofs.Common.{◌≡◌, ℕ, ◌+◌, ◌<◌, ◌≤◌, Bool, true, false, ◌||◌, T, eqb, ◌⊎◌, List, [], ◌∷◌, length, get_or, drop, Some, None, Option, Result, sym, refl, ap, ◌∙◌, subst, inl, inr, ⊎_elim, arith}
use Rattle.std.specs.Option.{MatchOption, unwrap_or}
use Rattle.std.specs.Str.{IsCharBoundary}
use Rattle.std.proofs.lemmas.Bool.{eqb-true, ne_eqb}
use Rattle.std.proofs.lemmas.Str.{IsCharBoundary-end}
use Rattle.grammar.specs.Text.{Text, Spot, over, char}
use Rattle.grammar.specs.Utf8.{utf8}
use Rattle.grammar.specs.Rule.{Rule, ◌▸◌, lookahead_not, text_over, Ahead, but, only, among, Matches}
use Rattle.grammar.specs.Production.{dollar, line_terminator, cr, crlf, points, one_of, chars}
use Rattle.grammar.specs.Literal.{Body, double, single, template}
use Rattle.grammar.specs.Recovery as recovery
use Rattle.grammar.specs.Reading as grammar
use Rattle.grammar.proofs.Ascii.{lookahead_not_at}
use Rattle.grammar.proofs.Leaves.{takes}
use Rattle.stops.specs.First.{Free, StopAt}
use Rattle.source.specs.Fronts.{Begins}
use Rattle.escapes.specs.Places.{At, Here}
use Rattle.escapes.specs.Escapes.{is_template, units_told, faults_told, reached, EscapeRead}
use Rattle.escapes.specs.declared.unicode.Given.{Given}
use Rattle.escapes.specs.declared.unicode.Invalid.{Invalid}
use Rattle.escapes.proofs.Looks.{here, over_at, two_here, second_ahead}
use Rattle.escapes.proofs.Nodes.{stop}
use Rattle.escapes.proofs.Parts.{one_step}
use Rattle.pieces.specs.Plain.{Plain}
use Rattle.pieces.specs.Pieces.{GoesOn, Ends, stops_in}
use Rattle.pieces.proofs.Plains.{plain, is}

-- an ending, from the match of its rule
ends : (b : Body) (bs : List ℕ) (p q : ℕ) (e : grammar.Ending) (cs : List ℕ) → Matches (utf8 bs) p (grammar.end_rule b e) cs q → At bs q → p ≤ q → Ends b bs p e q
ends b bs p q e cs x a l = let (ls, _, y) = takes (grammar.end_rule b e) (utf8 bs) p cs q x in record { leaves = ls; takes = y; behind = a; order = l }

second : (bs : List ℕ) (p c : ℕ) → Here bs (p + 1) c → (utf8 bs (p + 1) ≡ char c (p + 2)) × At bs (p + 2)
second bs p c h = let e : p + 1 + 1 ≡ p + 2 = omega arith in (h.step ∙ ap (char c) e, subst (At bs) e h.behind)

unless : (t : Text) (q b : ℕ) → Ahead (t q) (but (points (b ∷ []))) true → Matches t q (lookahead_not (points (b ∷ []))) [] q
unless t q b h = (refl, refl, h)

module _ (bs : List ℕ) (p : ℕ) where
  -- TEMPLATES

  pub raw_crlf : (q : ℕ) → Here bs p 13 → Begins 13 10 (drop p bs) × (q ≡ p + 2) → GoesOn template bs p (Some (10 ∷ [])) [] true q
  raw_crlf q h (b, i) =
      let (e, a) = second bs p 10 (two_here bs p 13 10 h.at (omega arith) (omega arith) b).1 in
      subst (GoesOn template bs p (Some (10 ∷ [])) [] true) (sym i)
      (record { part = one_step template (utf8 bs) (grammar.proper (line_terminator crlf)) p (p + 2) (13 ∷ 10 ∷ []) (_, _, _, h.step, refl, tt, (_, _, _, e, refl, tt, stop (utf8 bs) (p + 2))); behind = a; moves = omega arith })

  pub raw_cr : Here bs p 13 → (Begins 13 10 (drop p bs) → ⊥) → GoesOn template bs p (Some (10 ∷ [])) [] true (p + 1)
  raw_cr h n =
      record {
        part = one_step template (utf8 bs) (grammar.proper (line_terminator cr)) p (p + 1) (13 ∷ []) (_, _, _, h.step, refl, tt, unless (utf8 bs) (p + 1) 10 (second_ahead bs p 13 10 (omega arith) h n));
        behind = h.behind;
        moves = omega arith;
      }

  pub raw_return : (r : Option ℕ) (q : ℕ) → q ≡ unwrap_or r (p + 1) → Here bs p 13 → MatchOption r (Begins 13 10 (drop p bs) → ⊥) (λ q. Begins 13 10 (drop p bs) × (q ≡ p + 2)) → GoesOn template bs p (Some (10 ∷ [])) [] true q
  raw_return None q e h n = rw e (raw_cr h n)
  raw_return (Some r) q e h k = rw e (raw_crlf r h k)

  pub lone_dollar : Here bs p 36 → (p + 1 < length bs → get_or bs (p + 1) 0 ≡ 123 → ⊥) → GoesOn template bs p (Some (36 ∷ [])) [] false (p + 1)
  lone_dollar h n =
      record {
        part = one_step template (utf8 bs) (grammar.proper dollar) p (p + 1) (36 ∷ [])
            (_, _, _, h.step, refl, tt, (refl, refl, lookahead_not_at bs (p + 1) (chars "{") tt h.at.text (λ l k. n l (same (get_or bs (p + 1) 0) k))));
        behind = h.behind;
        moves = omega arith;
      }
    where
      same : (c : ℕ) → T (among c (chars "{")) → c ≡ 123
      same c k = grind arith

  pub substitution : Here bs p 36 → (p + 1 < length bs) × (get_or bs (p + 1) 0 ≡ 123) → Ends template bs p grammar.substitution (p + 2)
  substitution h (l, i) =
      let (e, a) = second bs p 123 (subst (Here bs (p + 1)) i (here bs (p + 1) h.behind l (omega arith))) in
      ends template bs p (p + 2) grammar.substitution (36 ∷ 123 ∷ []) (_, _, _, h.step, refl, tt, (_, _, _, e, refl, tt, stop (utf8 bs) (p + 2))) a (omega arith)

  pub template_closed : (c : ℕ) → Here bs p c → stops_in template c ≡ true → (c ≡ 92 → ⊥) → (c ≡ 36 → ⊥) → (c ≡ 13 → ⊥) → Ends template bs p grammar.closed (p + 1)
  template_closed c h t x y z =
      let e = eqb-true c 96 (only_second (eqb c 36) (eqb c 96) (eqb c 13) (eqb c 92) t (ne_eqb c 36 y) (ne_eqb c 13 z) (ne_eqb c 92 x)) in
      ends template bs p (p + 1) grammar.closed (c ∷ []) (_, _, _, h.step, refl, is 96 e tt, stop (utf8 bs) (p + 1)) h.behind (omega arith)
    where
      only_second : (a b c d : Bool) → a || (b || (c || d)) ≡ true → a ≡ false → c ≡ false → d ≡ false → b ≡ true
      only_second a true c d h i j k = refl
      only_second a false c d h i j k = sym (ap (λ z. z || (c || d)) i ∙ ap (λ z. z || d) j ∙ k) ∙ h

  -- STRINGS

  pub line_break_lem : (b : Body) (c : ℕ) → is_template b ≡ false → Here bs p c → (c ≡ 10) ⊎ (c ≡ 13) → Ends b bs p (grammar.broken recovery.line_break) (p + 1)
  line_break_lem double c i h k = ends double bs p (p + 1) (grammar.broken recovery.line_break) (c ∷ []) (_, _, _, h.step, refl, ⊎_elim (λ e. rw e tt) (λ e. rw e tt) k, stop (utf8 bs) (p + 1)) h.behind (omega arith)
  line_break_lem single c i h k = ends single bs p (p + 1) (grammar.broken recovery.line_break) (c ∷ []) (_, _, _, h.step, refl, ⊎_elim (λ e. rw e tt) (λ e. rw e tt) k, stop (utf8 bs) (p + 1)) h.behind (omega arith)
  line_break_lem template c i h k = let z : ◌≡◌ {A = ℕ} 0 1 = cc in absurd (omega arith)

  only_first : (a b c d : Bool) → a || (b || (c || d)) ≡ true → b ≡ false → c ≡ false → d ≡ false → a ≡ true
  only_first true b c d h i j k = refl
  only_first false b c d h i j k = sym (ap (λ z. z || (c || d)) i ∙ ap (λ z. z || d) j ∙ k) ∙ h

  pub string_closed : (b : Body) (c : ℕ) → is_template b ≡ false → Here bs p c → stops_in b c ≡ true → (c ≡ 92 → ⊥) → (c ≡ 13 → ⊥) → (c ≡ 10 → ⊥) → Ends b bs p grammar.closed (p + 1)
  string_closed double c i h t x y z =
      let e = eqb-true c 34 (only_first (eqb c 34) (eqb c 92) (eqb c 13) (eqb c 10) t (ne_eqb c 92 x) (ne_eqb c 13 y) (ne_eqb c 10 z)) in
      ends double bs p (p + 1) grammar.closed (c ∷ []) (_, _, _, h.step, refl, is 34 e tt, stop (utf8 bs) (p + 1)) h.behind (omega arith)
  string_closed single c i h t x y z =
      let e = eqb-true c 39 (only_first (eqb c 39) (eqb c 92) (eqb c 13) (eqb c 10) t (ne_eqb c 92 x) (ne_eqb c 13 y) (ne_eqb c 10 z)) in
      ends single bs p (p + 1) grammar.closed (c ∷ []) (_, _, _, h.step, refl, is 39 e tt, stop (utf8 bs) (p + 1)) h.behind (omega arith)
  string_closed template c i h t x y z = let w : ◌≡◌ {A = ℕ} 0 1 = cc in absurd (omega arith)

  -- BOTH

  last_rule : (b : Body) → grammar.end_rule b (grammar.broken recovery.last_backslash) ≡ (one_of "\\" ▸ text_over)
  last_rule double = refl
  last_rule single = refl
  last_rule template = refl

  nothing_left : (t : Text) (q : ℕ) → t q ≡ over → Ahead (t q) (only []) true
  nothing_left t q e = subst (λ (z : Spot). Ahead z (only []) true) (sym e) tt

  pub last_backslash_lem : (b : Body) → Here bs p 92 → utf8 bs (p + 1) ≡ over → Ends b bs p (grammar.broken recovery.last_backslash) (p + 1)
  last_backslash_lem b h e =
      ends b bs p (p + 1) (grammar.broken recovery.last_backslash) (92 ∷ [])
      (subst (λ (r : Rule). Matches (utf8 bs) p r (92 ∷ []) (p + 1)) (sym (last_rule b)) (_, _, _, h.step, refl, tt, (refl, refl, nothing_left (utf8 bs) (p + 1) e))) h.behind (omega arith)

  end_rule_lem : (b : Body) → grammar.end_rule b (grammar.broken recovery.text_end) ≡ text_over
  end_rule_lem double = refl
  end_rule_lem single = refl
  end_rule_lem template = refl

  pub text_end_lem : (b : Body) → At bs p → utf8 bs p ≡ over → Ends b bs p (grammar.broken recovery.text_end) p
  text_end_lem b a e =
      ends b bs p p (grammar.broken recovery.text_end) [] (subst (λ (r : Rule). Matches (utf8 bs) p r [] p) (sym (end_rule_lem b)) (refl, refl, nothing_left (utf8 bs) p e)) a (omega arith)

-- the escape behind a backslash
pub escaped :
    (bs : List ℕ) (p : ℕ) (b : Body) (e : Result Given Invalid) → Here bs p 92 → EscapeRead (is_template b) bs (p + 1) (Some e)
    → GoesOn b bs p (units_told (is_template b) e) (faults_told (is_template b) p e) true (reached e) × (p + 1 < reached e)
escaped bs p b e h x = (record { part = x.0 b p refl h.step; behind = x.1; moves = omega (arith, x.2) }, x.2)

-- a stop is of ASCII
some_of : (a b c d : Bool) → a || (b || (c || d)) ≡ true → (a ≡ true) ⊎ ((b ≡ true) ⊎ ((c ≡ true) ⊎ (d ≡ true)))
some_of true b c d h = inl refl
some_of false true c d h = inr (inl refl)
some_of false false true d h = inr (inr (inl refl))
some_of false false false d h = inr (inr (inr h))

small : (x y z w c : ℕ) → x < 128 → y < 128 → z < 128 → w < 128 → eqb c x || (eqb c y || (eqb c z || eqb c w)) ≡ true → c < 128
small x y z w c i j k l h =
    ⊎_elim (λ e. omega (arith, eqb-true c x e)) (λ g. ⊎_elim (λ e. omega (arith, eqb-true c y e)) (λ f. ⊎_elim (λ e. omega (arith, eqb-true c z e)) (λ e. omega (arith, eqb-true c w e)) f) g) (some_of (eqb c x) (eqb c y) (eqb c z) (eqb c w) h)

stops_low : (b : Body) (c : ℕ) → stops_in b c ≡ true → c < 128
stops_low double c h = small 34 92 13 10 c (omega arith) (omega arith) (omega arith) (omega arith) h
stops_low single c h = small 39 92 13 10 c (omega arith) (omega arith) (omega arith) (omega arith) h
stops_low template c h = small 36 96 13 92 c (omega arith) (omega arith) (omega arith) (omega arith) h

pub stop_here : (b : Body) (bs : List ℕ) (p place byte : ℕ) → At bs p → StopAt (stops_in b) bs p place byte → IsCharBoundary bs place → Here bs place byte
stop_here b bs p place byte a s k =
    subst (Here bs place) (sym s.read) (here bs place (record { text = a.text; boundary = k }) s.within (let l = stops_low b byte s.stop in omega (arith, s.read)))

pub end_plain : (b : Body) (bs : List ℕ) (p : ℕ) → At bs p → Free (stops_in b) bs p (length bs) → Plain b bs p (length bs) × Ends b bs (length bs) (grammar.broken recovery.text_end) (length bs)
end_plain b bs p a f =
    let x = plain b bs p (length bs) a (IsCharBoundary-end bs) a.boundary.0 f in
    (x, text_end_lem bs (length bs) b x.behind (over_at bs (length bs) refl))
