-- Bytes with no stop among them, from boundary to boundary, are plain characters. Assumes nothing.
use Rattle.std.proofs.Common.{◌≡◌, ℕ, ◌+◌, ◌-◌, ◌<◌, ◌≤◌, Bool, true, false, not, ◌||◌, T, eqb, leb, List, [], ◌∷◌, ◌++◌, length, get_or, take, drop, Some, sym, refl, ap, ◌∙◌, subst, ⊎_elim, append_assoc, arith, leb→le, T_not, length-append, length-drop, take-append-drop}
use lib.Dec.{not_T}
use lib.Utf8.{encode, encodes}
use Rattle.std.specs.Char.{len_utf8}
use Rattle.std.specs.Str.{IsCharBoundary}
use Rattle.std.proofs.lemmas.List.{drop-drop, get_or-drop, length-take-le}
use Rattle.std.proofs.lemmas.Bool.{eqb-true, eqb-false, cases_lt, cases_Bool}
use Rattle.std.proofs.lemmas.Str.{byte_from_char, drop_past_char, IsUtf8-drop, IsUtf8-between, encodes-chars, IsCharBoundary-past_char, length-encode, len_utf8_bounds}
use Rattle.std.proofs.lemmas.Bool.Decides.{nat_tests}
use Rattle.grammar.specs.Text.{Text, char}
use Rattle.grammar.specs.Utf8.{utf8}
use Rattle.grammar.specs.Rule.{but, member, among, within, Matches}
use Rattle.grammar.specs.Production.{Character, source_character, line_separator, paragraph_separator, line_terminator, lf, ls, ps, points, this}
use Rattle.grammar.specs.Value.{utf16, character_value}
use Rattle.grammar.specs.Literal.{Body, double, single, template}
use Rattle.grammar.specs.Reading.{proper, step_rule}
use Rattle.grammar.specs.Outcome.{marks}
use Rattle.grammar.proofs.Classes.{both, either}
use Rattle.grammar.proofs.Utf8.{spelt_stand}
use Rattle.stops.specs.First.{Free}
use Rattle.escapes.specs.Places.{At}
use Rattle.escapes.specs.Escapes.{Part}
use Rattle.escapes.proofs.Nodes.{stop}
use Rattle.escapes.proofs.Parts.{one_step, part_join, no_step}
use Rattle.pieces.specs.Plain.{Plain, spelt, utf16s}
use Rattle.pieces.specs.Pieces.{stops_in}

none_of : (a b c d : Bool) → a || (b || (c || d)) ≡ false → (a ≡ false) × (b ≡ false) × (c ≡ false) × (d ≡ false)
none_of false false false false h = (refl, refl, refl, refl)
none_of true b c d h = absurd (subst (λ z. T (not z)) (sym h) tt)
none_of false true c d h = absurd (subst (λ z. T (not z)) (sym h) tt)
none_of false false true d h = absurd (subst (λ z. T (not z)) (sym h) tt)
none_of false false false true h = absurd (subst (λ z. T (not z)) (sym h) tt)

-- a character that is none of some others
abbrev Off : ℕ → List ℕ → Type 0
Off c [] = Unit {0}
Off c (d ∷ ds) = (c ≡ d → ⊥) × Off c ds

misses : (c : ℕ) (ds : List ℕ) → Off c ds → T (member c (but (points ds)))
misses c [] h = tt
misses c (d ∷ ds) h =
    not_T (among c (points (d ∷ ds)))
    (λ k. ⊎_elim (λ w. let (a, b) = both (leb d c) (leb c d) w in h.0 (omega (arith, leb→le d c a, leb→le c d b))) (λ x. T_not (among c (points ds)) (misses c ds h.1) x) (either (within c (d, d)) (among c (points ds)) k))

pub is : {c : ℕ} (d : ℕ) → c ≡ d → T (member d (this d)) → T (member c (this d))
is d e h = subst (λ (z : ℕ). T (member z (this d))) (sym e) h

-- one character as a plain step
abbrev One : Body → Text → ℕ → ℕ → ℕ → Type 0
One b t p c q = Part b t p (Some (utf16 c)) [] false q

plain_step : (b : Body) (t : Text) (k : Character) (p c q : ℕ) → Matches t p (step_rule b (proper k)) (c ∷ []) q → character_value k (c ∷ []) ≡ Some (utf16 c) → marks k ≡ false → One b t p c q
plain_step b t k p c q x u m =
    let y = one_step b t (proper k) p q (c ∷ []) x in
    record { nodes = y.nodes; chain = y.chain; units = y.units ∙ u; faulted = y.faulted; marked = y.marked ∙ m }

unit_of : {c : ℕ} (d : ℕ) → c ≡ d → d < 65536 → ◌≡◌ (Some (d ∷ [])) (Some (utf16 c))
unit_of d e l = ap (λ (z : List ℕ). Some z) (self d l) ∙ ap (λ (z : ℕ). Some (utf16 z)) (sym e)
  where
    self : (d : ℕ) → d < 65536 → d ∷ [] ≡ utf16 d
    self d l = grind (arith, nat_tests)

-- LS, PS and, in a template, LF have nodes of their own
data Breaks (c : ℕ) : Type 0 where
  is_ls : c ≡ 8232 → Breaks c
  is_ps : c ≡ 8233 → Breaks c
  is_lf : c ≡ 10 → Breaks c
  none : (c ≡ 8232 → ⊥) → (c ≡ 8233 → ⊥) → (c ≡ 10 → ⊥) → Breaks c

breaks : (c : ℕ) → Breaks c
breaks c =
    ⊎_elim (λ e. is_ls (eqb-true c 8232 e))
    (λ e. ⊎_elim (λ f. is_ps (eqb-true c 8233 f)) (λ f. ⊎_elim (λ g. is_lf (eqb-true c 10 g)) (λ g. none (eqb-false c 8232 e) (eqb-false c 8233 f) (eqb-false c 10 g)) (cases_Bool (eqb c 10))) (cases_Bool (eqb c 8233))) (cases_Bool (eqb c 8232))

plain_double : (t : Text) (p c q : ℕ) → t p ≡ char c q → stops_in double c ≡ false → Breaks c → One double t p c q
plain_double t p c q e h (is_ls k) = plain_step double t line_separator p c q (_, _, _, e, refl, is 8232 k tt, stop t q) (unit_of 8232 k (omega arith)) refl
plain_double t p c q e h (is_ps k) = plain_step double t paragraph_separator p c q (_, _, _, e, refl, is 8233 k tt, stop t q) (unit_of 8233 k (omega arith)) refl
plain_double t p c q e h (is_lf k) = absurd (eqb-false c 10 (none_of (eqb c 34) (eqb c 92) (eqb c 13) (eqb c 10) h).3 k)
plain_double t p c q e h (none i j k) =
    let n = none_of (eqb c 34) (eqb c 92) (eqb c 13) (eqb c 10) h in
    plain_step double t source_character p c q
    (_, _, _, e, refl, misses c (34 ∷ 92 ∷ 10 ∷ 13 ∷ 8232 ∷ 8233 ∷ []) (eqb-false c 34 n.0, (eqb-false c 92 n.1, (k, (eqb-false c 13 n.2, (i, (j, tt)))))), stop t q) refl refl

plain_single : (t : Text) (p c q : ℕ) → t p ≡ char c q → stops_in single c ≡ false → Breaks c → One single t p c q
plain_single t p c q e h (is_ls k) = plain_step single t line_separator p c q (_, _, _, e, refl, is 8232 k tt, stop t q) (unit_of 8232 k (omega arith)) refl
plain_single t p c q e h (is_ps k) = plain_step single t paragraph_separator p c q (_, _, _, e, refl, is 8233 k tt, stop t q) (unit_of 8233 k (omega arith)) refl
plain_single t p c q e h (is_lf k) = absurd (eqb-false c 10 (none_of (eqb c 39) (eqb c 92) (eqb c 13) (eqb c 10) h).3 k)
plain_single t p c q e h (none i j k) =
    let n = none_of (eqb c 39) (eqb c 92) (eqb c 13) (eqb c 10) h in
    plain_step single t source_character p c q
    (_, _, _, e, refl, misses c (39 ∷ 92 ∷ 10 ∷ 13 ∷ 8232 ∷ 8233 ∷ []) (eqb-false c 39 n.0, (eqb-false c 92 n.1, (k, (eqb-false c 13 n.2, (i, (j, tt)))))), stop t q) refl refl

plain_template : (t : Text) (p c q : ℕ) → t p ≡ char c q → stops_in template c ≡ false → Breaks c → One template t p c q
plain_template t p c q e h (is_ls k) = plain_step template t (line_terminator ls) p c q (_, _, _, e, refl, is 8232 k tt, stop t q) (unit_of 8232 k (omega arith)) refl
plain_template t p c q e h (is_ps k) = plain_step template t (line_terminator ps) p c q (_, _, _, e, refl, is 8233 k tt, stop t q) (unit_of 8233 k (omega arith)) refl
plain_template t p c q e h (is_lf k) = plain_step template t (line_terminator lf) p c q (_, _, _, e, refl, is 10 k tt, stop t q) (unit_of 10 k (omega arith)) refl
plain_template t p c q e h (none i j k) =
    let n = none_of (eqb c 36) (eqb c 96) (eqb c 13) (eqb c 92) h in
    plain_step template t source_character p c q
    (_, _, _, e, refl, misses c (96 ∷ 92 ∷ 36 ∷ 10 ∷ 13 ∷ 8232 ∷ 8233 ∷ []) (eqb-false c 96 n.1, (eqb-false c 92 n.3, (eqb-false c 36 n.0, (k, (eqb-false c 13 n.2, (i, (j, tt))))))), stop t q) refl refl

plain_char : (b : Body) (t : Text) (p c q : ℕ) → t p ≡ char c q → stops_in b c ≡ false → One b t p c q
plain_char double t p c q e h = plain_double t p c q e h (breaks c)
plain_char single t p c q e h = plain_single t p c q e h (breaks c)
plain_char template t p c q e h = plain_template t p c q e h (breaks c)

-- beyond ASCII nothing stops
high_free : (b : Body) (c : ℕ) → 128 ≤ c → stops_in b c ≡ false
high_free double c h = grind arith
high_free single c h = grind arith
high_free template c h = grind arith

-- what the bytes from p to q spell
pub spelt_bytes : (bs : List ℕ) (p q : ℕ) → At bs p → At bs q → p ≤ q → (drop p bs ≡ encodes (spelt bs p q) ++ drop q bs) × (p + length (encodes (spelt bs p q)) ≡ q)
spelt_bytes bs p q a b l =
    let w = IsUtf8-between bs p q a.text l a.boundary b.boundary in
    let e = encodes-chars (take (q - p) (drop p bs)) w in
    let n : length (take (q - p) (drop p bs)) ≡ q - p = length-take-le (q - p) (drop p bs) (omega (arith, length-drop p bs, b.boundary.0)) in
    let d : drop (q - p) (drop p bs) ≡ drop q bs = drop-drop (q - p) p bs ∙ ap (λ (k : ℕ). drop k bs) (let k : p + (q - p) ≡ q = omega arith in k) in (
      sym (take-append-drop (q - p) (drop p bs)) ∙ ap (λ (z : List ℕ). take (q - p) (drop p bs) ++ z) d ∙ ap (λ (z : List ℕ). z ++ drop q bs) (sym e),
      let f : length (encodes (spelt bs p q)) ≡ q - p = ap length e ∙ n in omega arith,
    )

-- a character spelt out at a place: the text has it, and the place behind it is one too
pub char_spelt : (bs rest : List ℕ) (p c : ℕ) → At bs p → drop p bs ≡ encode c ++ rest → (utf8 bs p ≡ char c (p + len_utf8 c)) × At bs (p + len_utf8 c) × (drop (p + len_utf8 c) bs ≡ rest)
char_spelt bs rest p c a e =
    let d = drop_past_char bs rest p c e in (
      spelt_stand bs p c a.text a.boundary (e ∙ ap (λ (z : List ℕ). encode c ++ z) (sym d)),
      record { text = a.text; boundary = IsCharBoundary-past_char bs rest p c a.boundary.0 (IsUtf8-drop bs p a.text a.boundary) e },
      d,
    )

run : (b : Body) (bs : List ℕ) (q : ℕ) (cs : List ℕ) (p : ℕ) → At bs p → drop p bs ≡ encodes cs ++ drop q bs → p + length (encodes cs) ≡ q → Free (stops_in b) bs p q → Part b (utf8 bs) p (Some (utf16s cs)) [] false q
run b bs q [] p a e l f = subst (λ (z : ℕ). Part b (utf8 bs) p (Some []) [] false z) (omega arith) (no_step b (utf8 bs) p)
run b bs q (c ∷ cs) p a e l f =
    let g : drop p bs ≡ encode c ++ (encodes cs ++ drop q bs) = e ∙ append_assoc (encode c) (encodes cs) (drop q bs) in
    let (s, x, d) = char_spelt bs (encodes cs ++ drop q bs) p c a g in
    let w = len_utf8_bounds c in
    let n = length-encode c in
    let m = length-append (encode c) (encodes cs) in
    let first : get_or (drop p bs) 0 0 ≡ get_or bs p 0 = get_or-drop p bs 0 0 ∙ ap (λ (z : ℕ). get_or bs z 0) (let i : p + 0 ≡ p = omega arith in i) in
    let free : stops_in b c ≡ false =
    ⊎_elim (λ k. sym (ap (stops_in b) (sym first ∙ byte_from_char (drop p bs) (encodes cs ++ drop q bs) c g k)) ∙ f p (omega arith) (omega arith)) (λ k. high_free b c k) (cases_lt c 128) in
    part_join b (utf8 bs) p (p + len_utf8 c) q (Some (utf16 c)) (Some (utf16s cs)) [] [] false false (plain_char b (utf8 bs) p c (p + len_utf8 c) s free)
    (run b bs q cs (p + len_utf8 c) x d (omega arith) (λ k i j. f k (omega arith) j))

pub plain : (b : Body) (bs : List ℕ) (p q : ℕ) → At bs p → IsCharBoundary bs q → p ≤ q → Free (stops_in b) bs p q → Plain b bs p q
plain b bs p q a c l f =
    let x : At bs q = record { text = a.text; boundary = c } in
    let s = spelt_bytes bs p q a x l in
    record { part = run b bs q (spelt bs p q) p a s.0 s.1 f; order = l; behind = x }
