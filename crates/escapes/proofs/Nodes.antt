-- The characters of the grammar behind a backslash, from what the readers saw. `m` is true in templates. Assumes nothing.
use Rattle.std.proofs.Common.{◌≡◌, ℕ, ◌+◌, ◌-◌, ◌*◌, ◌<◌, ◌≤◌, Bool, true, false, not, ◌||◌, T, ltb, ◌⊎◌, List, [], ◌∷◌, ◌++◌, length, Some, Option, sym, refl, ap, ◌∙◌, subst, inl, inr, arith, ltb→lt, lt→ltb}
use Rattle.std.proofs.lemmas.Bool.Decides.{nat_tests}
use Rattle.grammar.specs.Text.{Text, Spot, over, char}
use Rattle.grammar.specs.Rule.{Rule, Span, ◌▸◌, done, lookahead_not, Ahead, but, only, within, among, member, hex_digit, hex_digits, digit, Run, mv, mv_from, above, just_above, meets, Matches}
use Rattle.grammar.specs.Production.{lf, cr, ls, ps, crlf, zero_alone, one_digit, two_low, two_high, three_digits}
use Rattle.grammar.specs.Production.{EscapeSequence, single_escape, non_escape, nul, legacy_octal, non_octal_decimal, hex_escape, unicode_hex4, unicode_code_point}
use Rattle.grammar.specs.Production.{NotEscapeSequence, zero_decimal, decimal_not_zero, x0, x1, u0, u1, u2, u3, brace0, brace_not_code_point, brace_code_point}
use Rattle.grammar.specs.Production.{escape, line_continuation, chars, points, this, octal_digits, octal_digit, decimal_digits, decimal_digit, decimal_digit_not_zero, eight_nine, code_point}
use Rattle.grammar.specs.Production.{single_escape_characters, non_escape_character, escape_sequence, template_escape_sequence, not_escape_sequence}
use Rattle.grammar.specs.Value.{utf16, single_escape_value, character_value}
use Rattle.grammar.specs.Recovery.{BadEscape, bad_escape, bad_x0, bad_x1, bad_u0, bad_u1, bad_u2, bad_u3, bad_brace0, bad_brace_over, bad_brace_open}
use Rattle.grammar.proofs.Classes.{both}
use Rattle.grammar.proofs.Digits.{but_last_push}
use Rattle.grammar.proofs.Runs.{grows}
use Rattle.escapes.specs.Escapes.{Alone, Wrong}

-- THE PARTS OF A MATCH

anything : (s : Spot) → Ahead s (but []) true
anything over = tt
anything (char c m) = tt

pub stop : (t : Text) (q : ℕ) → Matches t q done [] q
stop t q = (refl, refl, anything (t q))

stop_unless : (t : Text) (q : ℕ) (ss : List Span) → Ahead (t q) (but ss) true → Matches t q (lookahead_not ss) [] q
stop_unless t q ss h = (refl, refl, h)

is : {c : ℕ} (d : ℕ) → c ≡ d → T (member d (this d)) → T (member c (this d))
is d e h = subst (λ (z : ℕ). T (member z (this d))) (sym e) h

-- nothing of either class stands there
ahead_both : (s : Spot) (rs ss : List Span) → Ahead s (but rs) true → Ahead s (but ss) true → Ahead s (but (rs ++ ss)) true
ahead_both over rs ss h k = tt
ahead_both (char c q) [] ss h k = k
ahead_both (char c q) (r ∷ rs) ss h k = first (within c r) (among c rs) (among c (rs ++ ss)) h (λ i. ahead_both (char c q) rs ss i k)
  where
    first : (x y z : Bool) → T (not (x || y)) → (T (not y) → T (not z)) → T (not (x || z))
    first true y z h f = absurd h
    first false y z h f = f h

-- an escape that strings and templates share
shared : (m : Bool) (e : EscapeSequence) (t : Text) (p q : ℕ) (cs us : List ℕ) → template_escape_sequence e ≡ escape_sequence e → Matches t p (escape_sequence e) cs q → character_value (escape e) (92 ∷ cs) ≡ Some us → Alone m t p us q
shared true e t p q cs us i x u = record { what = escape e; chars = cs; matches = subst (λ (r : Rule). Matches t p r cs q) (sym i) x; units = u }
shared false e t p q cs us i x u = record { what = escape e; chars = cs; matches = x; units = u }

-- a string's own
legacy : (e : EscapeSequence) (t : Text) (p q : ℕ) (cs us : List ℕ) → Matches t p (escape_sequence e) cs q → character_value (escape e) (92 ∷ cs) ≡ Some us → Alone false t p us q
legacy e t p q cs us x u = record { what = escape e; chars = cs; matches = x; units = u }

-- what a template takes for a NotEscapeSequence and a string for a bad escape, where the two take the same
wrong : (m : Bool) (n : NotEscapeSequence) (b : BadEscape) (t : Text) (p q : ℕ) (cs : List ℕ) → bad_escape b ≡ not_escape_sequence n → Matches t p (not_escape_sequence n) cs q → Wrong m t p q
wrong true n b t p q cs e x = (n, cs, x)
wrong false n b t p q cs e x = (b, cs, subst (λ (r : Rule). Matches t p r cs q) (sym e) x)

one_unit : {u v : ℕ} → u ≡ v → ◌≡◌ {A = Option (List ℕ)} (Some (v ∷ [])) (Some (u ∷ []))
one_unit e = ap (λ (z : ℕ). Some (z ∷ [])) (sym e)

-- LINE CONTINUATIONS, SINGLE AND OTHER CHARACTERS

pub alone_break : (m : Bool) (t : Text) (p c q : ℕ) → t p ≡ char c q → (c ≡ 10) ⊎ ((c ≡ 8232) ⊎ (c ≡ 8233)) → Alone m t p [] q
alone_break m t p c q e (inl h) = record { what = line_continuation lf; chars = c ∷ []; matches = (_, _, _, e, refl, is 10 h tt, stop t q); units = refl }
alone_break m t p c q e (inr (inl h)) = record { what = line_continuation ls; chars = c ∷ []; matches = (_, _, _, e, refl, is 8232 h tt, stop t q); units = refl }
alone_break m t p c q e (inr (inr h)) = record { what = line_continuation ps; chars = c ∷ []; matches = (_, _, _, e, refl, is 8233 h tt, stop t q); units = refl }

pub alone_return : (m : Bool) (t : Text) (p q : ℕ) → t p ≡ char 13 q → Ahead (t q) (but (points (10 ∷ []))) true → Alone m t p [] q
alone_return m t p q e h = record { what = line_continuation cr; chars = 13 ∷ []; matches = (_, _, _, e, refl, tt, stop_unless t q (points (10 ∷ [])) h); units = refl }

pub alone_crlf : (m : Bool) (t : Text) (p n q : ℕ) → t p ≡ char 13 n → t n ≡ char 10 q → Alone m t p [] q
alone_crlf m t p n q e f = record { what = line_continuation crlf; chars = 13 ∷ 10 ∷ []; matches = (_, _, _, e, refl, tt, (_, _, _, f, refl, tt, stop t q)); units = refl }

pub alone_single : (m : Bool) (t : Text) (p c q u : ℕ) → t p ≡ char c q → T (member c (only single_escape_characters)) → u ≡ single_escape_value c → Alone m t p (u ∷ []) q
alone_single m t p c q u e h k = shared m single_escape t p q (c ∷ []) (u ∷ []) refl (_, _, _, e, refl, h, stop t q) (one_unit k)

pub alone_other : (m : Bool) (t : Text) (p c q : ℕ) (us : List ℕ) → t p ≡ char c q → T (member c non_escape_character) → us ≡ utf16 c → Alone m t p us q
alone_other m t p c q us e h u = shared m non_escape t p q (c ∷ []) us refl (_, _, _, e, refl, h, stop t q) (ap Some (sym u))

-- `\x`

abbrev after : List ℕ → Rule → Rule
after [] r = r
after (d ∷ ds) r = hex_digit ▸ after ds r

hexes : (t : Text) (p m q : ℕ) (ds : List ℕ) (r : Rule) (es : List ℕ) → Run t p ds m → Matches t m r es q → Matches t p (after ds r) (ds ++ es) q
hexes t p m q [] r es x y = subst (λ (z : ℕ). Matches t z r es q) (sym x) y
hexes t p m q (d ∷ ds) r es x y = (_, _, _, x.1, refl, x.2, hexes t x.0 m q ds r es x.3 y)

-- digits that nothing of a class follows
shut : (t : Text) (p q : ℕ) (ds : List ℕ) (ss : List Span) → Run t p ds q → Ahead (t q) (but ss) true → Matches t p (after ds (lookahead_not ss)) (ds ++ []) q
shut t p q ds ss x h = hexes t p q q ds (lookahead_not ss) [] x (stop_unless t q ss h)

pub hex_all : (m : Bool) (t : Text) (p q v : ℕ) (ds : List ℕ) → t p ≡ char 120 (p + 1) → Run t (p + 1) ds q → length ds ≡ 2 → v ≡ mv 16 ds → Alone m t p (v ∷ []) q
hex_all m t p q v [] e x l h = absurd (omega arith)
hex_all m t p q v (a ∷ []) e x l h = absurd (omega arith)
hex_all m t p q v (a ∷ b ∷ []) e x l h = shared m hex_escape t p q (120 ∷ a ∷ b ∷ []) (v ∷ []) refl (_, _, _, e, refl, tt, hexes t (p + 1) q q (a ∷ b ∷ []) done [] x (stop t q)) (one_unit h)
hex_all m t p q v (a ∷ b ∷ c ∷ ds) e x l h = absurd (omega arith)

pub hex_short : (m : Bool) (t : Text) (p q : ℕ) (ds : List ℕ) → t p ≡ char 120 (p + 1) → Run t (p + 1) ds q → length ds < 2 → Ahead (t q) (but hex_digits) true → Wrong m t p q
hex_short m t p q [] e x l h = wrong m x0 bad_x0 t p q (120 ∷ []) refl (_, _, _, e, refl, tt, shut t (p + 1) q [] hex_digits x h)
hex_short m t p q (a ∷ []) e x l h = wrong m x1 bad_x1 t p q (120 ∷ a ∷ []) refl (_, _, _, e, refl, tt, shut t (p + 1) q (a ∷ []) hex_digits x h)
hex_short m t p q (a ∷ b ∷ ds) e x l h = absurd (omega arith)

-- `\u` and four digits

pub four : (t : Text) (p q : ℕ) (ds : List ℕ) → t p ≡ char 117 (p + 1) → Run t (p + 1) ds q → length ds ≡ 4 → Matches t p (escape_sequence unicode_hex4) (117 ∷ ds) q
four t p q [] e x l = absurd (omega arith)
four t p q (a ∷ []) e x l = absurd (omega arith)
four t p q (a ∷ b ∷ []) e x l = absurd (omega arith)
four t p q (a ∷ b ∷ c ∷ []) e x l = absurd (omega arith)
four t p q (a ∷ b ∷ c ∷ d ∷ []) e x l = (_, _, _, e, refl, tt, hexes t (p + 1) q q (a ∷ b ∷ c ∷ d ∷ []) done [] x (stop t q))
four t p q (a ∷ b ∷ c ∷ d ∷ f ∷ ds) e x l = absurd (omega arith)

pub unit_all : (m : Bool) (t : Text) (p q v : ℕ) (ds : List ℕ) → t p ≡ char 117 (p + 1) → Run t (p + 1) ds q → length ds ≡ 4 → v ≡ mv 16 ds → Alone m t p (v ∷ []) q
unit_all m t p q v ds e x l h = shared m unicode_hex4 t p q (117 ∷ ds) (v ∷ []) refl (four t p q ds e x l) (one_unit h)

pub unit_short : (m : Bool) (t : Text) (p q : ℕ) (ds : List ℕ) → t p ≡ char 117 (p + 1) → Ahead (t (p + 1)) (but (chars "{")) true → Run t (p + 1) ds q → length ds < 4 → Ahead (t q) (but hex_digits) true → Wrong m t p q
unit_short m t p q [] e k x l h =
    wrong m u0 bad_u0 t p q (117 ∷ []) refl
    (_, _, _, e, refl, tt, shut t (p + 1) q [] (hex_digits ++ chars "{") x (ahead_both (t q) hex_digits (chars "{") h (subst (λ (z : ℕ). Ahead (t z) (but (chars "{")) true) x k)))
unit_short m t p q (a ∷ []) e k x l h = wrong m u1 bad_u1 t p q (117 ∷ a ∷ []) refl (_, _, _, e, refl, tt, shut t (p + 1) q (a ∷ []) hex_digits x h)
unit_short m t p q (a ∷ b ∷ []) e k x l h = wrong m u2 bad_u2 t p q (117 ∷ a ∷ b ∷ []) refl (_, _, _, e, refl, tt, shut t (p + 1) q (a ∷ b ∷ []) hex_digits x h)
unit_short m t p q (a ∷ b ∷ c ∷ []) e k x l h = wrong m u3 bad_u3 t p q (117 ∷ a ∷ b ∷ c ∷ []) refl (_, _, _, e, refl, tt, shut t (p + 1) q (a ∷ b ∷ c ∷ []) hex_digits x h)
unit_short m t p q (a ∷ b ∷ c ∷ d ∷ ds) e k x l h = absurd (omega arith)

-- `\u{`

pub braces_all :
    (m : Bool) (t : Text) (p a n q v : ℕ) (ds us : List ℕ) → t p ≡ char 117 (p + 1) → t (p + 1) ≡ char 123 a → Run t a ds n → T (meets code_point ds) → t n ≡ char 125 q → v ≡ mv 16 ds
    → us ≡ utf16 v → Alone m t p us q
braces_all m t p a n q v ds us e f x k g h u =
    shared m unicode_code_point t p q (117 ∷ 123 ∷ (ds ++ 125 ∷ [])) us refl
    (_, _, _, e, refl, tt, (_, _, _, f, refl, tt, (ds, n, 125 ∷ [], x, refl, k, (_, _, _, g, refl, tt, stop t q))))
    (ap Some (ap (λ (z : List ℕ). utf16 (mv 16 z)) (but_last_push 125 ds) ∙ ap utf16 (sym h) ∙ sym u))

pub braces_none : (m : Bool) (t : Text) (p a : ℕ) → t p ≡ char 117 (p + 1) → t (p + 1) ≡ char 123 a → Ahead (t a) (but hex_digits) true → Wrong m t p a
braces_none m t p a e f h = wrong m brace0 bad_brace0 t p a (117 ∷ 123 ∷ []) refl (_, _, _, e, refl, tt, (_, _, _, f, refl, tt, stop_unless t a hex_digits h))

pub braces_open : (m : Bool) (t : Text) (p a q : ℕ) (ds : List ℕ) → t p ≡ char 117 (p + 1) → t (p + 1) ≡ char 123 a → Run t a ds q → T (meets code_point ds) → Ahead (t q) (but hex_digits) true → Ahead (t q) (but (chars "}")) true → Wrong m t p q
braces_open m t p a q ds e f x k h g =
    wrong m brace_code_point bad_brace_open t p q (117 ∷ 123 ∷ (ds ++ [])) refl
    (_, _, _, e, refl, tt, (_, _, _, f, refl, tt, (ds, q, [], x, refl, k, stop_unless t q (hex_digits ++ chars "}") (ahead_both (t q) hex_digits (chars "}") h g))))

pub braces_lift : (t : Text) (p a q : ℕ) (ds : List ℕ) → t p ≡ char 117 (p + 1) → t (p + 1) ≡ char 123 a → Run t a ds q → T (meets (just_above 0x10FFFF) ds) → Wrong false t p q
braces_lift t p a q ds e f x k = (bad_brace_over, 117 ∷ 123 ∷ (ds ++ []), (_, _, _, e, refl, tt, (_, _, _, f, refl, tt, (ds, q, [], x, refl, k, stop t q))))

run_join : (t : Text) (p n q : ℕ) (ds es : List ℕ) → Run t p ds n → Run t n es q → Run t p (ds ++ es) q
run_join t p n q [] es x y = subst (λ (z : ℕ). Run t z es q) (sym x) y
run_join t p n q (d ∷ ds) es x y = (x.0, x.1, x.2, run_join t x.0 n q ds es x.3 y)

mv_append : (v : ℕ) (ds es : List ℕ) → mv_from 16 v (ds ++ es) ≡ mv_from 16 (mv_from 16 v ds) es
mv_append v [] es = refl
mv_append v (d ∷ ds) es = mv_append (v * 16 + digit d) ds es

-- digits behind one that lifted the value keep it lifted
over_all : (ds es : List ℕ) → T (meets (just_above 0x10FFFF) ds) → T (meets (above 0x10FFFF) (ds ++ es))
over_all [] es h = absurd h
over_all (d ∷ ds) es h =
    let k = ltb→lt 1114111 (mv 16 (d ∷ ds)) (both (ltb 1114111 (mv 16 (d ∷ ds))) _ h).0 in
    lt→ltb 1114111 (mv 16 (d ∷ (ds ++ es))) (omega (arith, mv_append 0 (d ∷ ds) es, grows (mv 16 (d ∷ ds)) es))

pub braces_over : (t : Text) (p a n q : ℕ) (ds es : List ℕ) → t p ≡ char 117 (p + 1) → t (p + 1) ≡ char 123 a → Run t a ds n → T (meets (just_above 0x10FFFF) ds) → Run t n es q → Ahead (t q) (but hex_digits) true → Wrong true t p q
braces_over t p a n q ds es e f x k y h =
    (brace_not_code_point, 117 ∷ 123 ∷ ((ds ++ es) ++ []), (_, _, _, e, refl, tt, (_, _, _, f, refl, tt, (ds ++ es, q, [], run_join t a n q ds es x y, refl, over_all ds es k, stop_unless t q hex_digits h))))

-- DIGITS

pub alone_nul : (m : Bool) (t : Text) (p q : ℕ) → t p ≡ char 48 q → Ahead (t q) (but decimal_digits) true → Alone m t p (0 ∷ []) q
alone_nul m t p q e h = shared m nul t p q (48 ∷ []) (0 ∷ []) refl (_, _, _, e, refl, tt, stop_unless t q decimal_digits h) refl

pub zero_decimal_lem : (t : Text) (p n d q : ℕ) → t p ≡ char 48 n → t n ≡ char d q → T (member d decimal_digit) → Wrong true t p q
zero_decimal_lem t p n d q e f h = (zero_decimal, 48 ∷ d ∷ [], (_, _, _, e, refl, tt, (_, _, _, f, refl, h, stop t q)))

pub not_zero : (t : Text) (p c q : ℕ) → t p ≡ char c q → T (member c decimal_digit_not_zero) → Wrong true t p q
not_zero t p c q e h = (decimal_not_zero, c ∷ [], (_, _, _, e, refl, h, stop t q))

pub non_octal : (t : Text) (p c q : ℕ) (us : List ℕ) → t p ≡ char c q → T (member c (only eight_nine)) → us ≡ utf16 c → Alone false t p us q
non_octal t p c q us e h u = legacy non_octal_decimal t p q (c ∷ []) us (_, _, _, e, refl, h, stop t q) (ap Some (itself c h ∙ sym u))
  where
    itself : (c : ℕ) → T (member c (only eight_nine)) → c ∷ [] ≡ utf16 c
    itself c h = grind (arith, nat_tests)

pub octal_value : (c : ℕ) → T (member c octal_digit) → (digit c ≡ c - 48) × (48 ≤ c) × (c ≤ 55)
octal_value c h = (grind arith, grind arith, grind arith)

between : (a b c : ℕ) → a ≤ c → c ≤ b → T (member c (only ((a, b) ∷ [])))
between a b c h k = grind arith

pub octal_zero : (t : Text) (p c n d q u : ℕ) → t p ≡ char c n → T (member c octal_digit) → digit c ≡ 0 → t n ≡ char d q → T (member d decimal_digit) → Ahead (t n) (but octal_digits) true → u ≡ digit c → Alone false t p (u ∷ []) n
octal_zero t p c n d q u e h z f k a w =
    let v = octal_value c h in
    legacy (legacy_octal zero_alone) t p n (c ∷ []) (u ∷ [])
    (_, _, _, e, refl, is {c = c} 48 (omega arith) tt, (refl, refl, subst (λ (s : Spot). Ahead s (only eight_nine) false) (sym f) (behind d k (subst (λ (s : Spot). Ahead s (but octal_digits) true) f a))))
    (one_unit (omega arith))
  where
    behind : (d : ℕ) → T (member d decimal_digit) → T (member d (but octal_digits)) → T (member d (only eight_nine))
    behind d h k = grind arith

pub octal_one : (t : Text) (p c n u : ℕ) → t p ≡ char c n → T (member c octal_digit) → 0 < digit c → Ahead (t n) (but octal_digits) true → u ≡ digit c → Alone false t p (u ∷ []) n
octal_one t p c n u e h k a w =
    let v = octal_value c h in
    legacy (legacy_octal one_digit) t p n (c ∷ []) (u ∷ []) (_, _, _, e, refl, between 49 55 c (omega arith) (omega arith), stop_unless t n octal_digits a) (one_unit (omega arith))

pub octal_two_high : (t : Text) (p c n d q u : ℕ) → t p ≡ char c n → T (member c octal_digit) → 3 < digit c → t n ≡ char d q → T (member d octal_digit) → u ≡ digit c * 8 + digit d → Alone false t p (u ∷ []) q
octal_two_high t p c n d q u e h k f i w =
    let v = octal_value c h in
    legacy (legacy_octal two_high) t p q (c ∷ d ∷ []) (u ∷ []) (_, _, _, e, refl, between 52 55 c (omega arith) (omega arith), (_, _, _, f, refl, i, stop t q)) (one_unit (omega arith))

pub octal_two_low : (t : Text) (p c n d q u : ℕ) → t p ≡ char c n → T (member c octal_digit) → digit c ≤ 3 → t n ≡ char d q → T (member d octal_digit) → Ahead (t q) (but octal_digits) true → u ≡ digit c * 8 + digit d → Alone false t p (u ∷ []) q
octal_two_low t p c n d q u e h k f i a w =
    let v = octal_value c h in
    legacy (legacy_octal two_low) t p q (c ∷ d ∷ []) (u ∷ []) (_, _, _, e, refl, between 48 51 c (omega arith) (omega arith), (_, _, _, f, refl, i, stop_unless t q octal_digits a)) (one_unit (omega arith))

pub octal_three : (t : Text) (p c n d o b q u : ℕ) → t p ≡ char c n → T (member c octal_digit) → digit c ≤ 3 → t n ≡ char d o → T (member d octal_digit) → t o ≡ char b q → T (member b octal_digit) → u ≡ (digit c * 8 + digit d) * 8 + digit b → Alone false t p (u ∷ []) q
octal_three t p c n d o b q u e h k f i g j w =
    let v = octal_value c h in
    legacy (legacy_octal three_digits) t p q (c ∷ d ∷ b ∷ []) (u ∷ [])
    (_, _, _, e, refl, between 48 51 c (omega arith) (omega arith), (_, _, _, f, refl, i, (_, _, _, g, refl, j, stop t q))) (one_unit (omega arith))
