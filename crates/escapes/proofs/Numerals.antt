-- Hex digits in a row, from what the digit reader saw. Assumes nothing.
use Rattle.std.proofs.Common.{◌≡◌, ℕ, ◌+◌, ◌*◌, ◌<◌, ◌≤◌, true, T, List, [], ◌∷◌, ◌++◌, length, Some, None, sym, refl, ◌∙◌, subst, arith, length-append}
use Rattle.std.specs.Iterator.{Yields}
use Rattle.grammar.specs.Text.{Text}
use Rattle.grammar.specs.Utf8.{utf8}
use Rattle.grammar.specs.Rule.{Ahead, but, member, hex_digit, hex_digits, digit, Run, mv, just_above, meets}
use Rattle.grammar.specs.Production.{code_point}
use Rattle.grammar.proofs.Digits.{run_push, mv_push, meets_most, meets_lifted}
use Rattle.escapes.specs.Places.{At}
use Rattle.escapes.specs.Digits.{Digit, Digits, TakesHex, Skipped}
use Rattle.escapes.specs.declared.digits.HexDigits.{HexDigits}
use Rattle.escapes.proofs.Looks.{at_site}

pub length_more : (ds : List ℕ) (d : ℕ) → length (ds ++ d ∷ []) ≡ length ds + 1
length_more ds d = length-append ds (d ∷ [])

pub digits_none : (bs : List ℕ) (p q : ℕ) → q ≡ p → At bs p → (d : Digits bs p 0 q) × (length d.chars ≡ 0)
digits_none bs p q e a = (record { chars = []; run = sym e; value = refl; behind = subst (At bs) (sym e) a; moves = omega arith }, refl)

pub digits_more : (bs : List ℕ) (p v q r n d : ℕ) → r ≡ q + 1 → (x : Digits bs p v q) → length x.chars ≡ n → Digit hex_digits bs q d → (y : Digits bs p (v * 16 + d) r) × (length y.chars ≡ n + 1)
digits_more bs p v q r n d e x l y = (
  record {
    chars = x.chars ++ y.char ∷ [];
    run = subst (λ (z : ℕ). Run (utf8 bs) p (x.chars ++ y.char ∷ []) z) (sym e) (run_push (utf8 bs) p q (q + 1) y.char x.chars x.run y.here.step y.belongs);
    value = let f = x.value in let g = y.value in let h = mv_push 16 y.char x.chars in omega arith;
    behind = subst (At bs) (sym e) y.here.behind;
    moves = omega (arith, x.moves, length_more x.chars y.char);
  },
  omega (arith, length_more x.chars y.char),
)

-- how large they are
pub digit_small : (c : ℕ) → T (member c hex_digit) → digit c < 16
digit_small c h = grind arith

run_small : (t : Text) (p q : ℕ) (ds : List ℕ) → Run t p ds q → length ds ≤ 3 → mv 16 ds < 4096
run_small t p q [] r l = omega arith
run_small t p q (a ∷ []) r l = omega (arith, digit_small a r.2)
run_small t p q (a ∷ b ∷ []) r l = omega (arith, digit_small a r.2, digit_small b r.3.2)
run_small t p q (a ∷ b ∷ c ∷ []) r l = omega (arith, digit_small a r.2, digit_small b r.3.2, digit_small c r.3.3.2)
run_small t p q (a ∷ b ∷ c ∷ d ∷ ds) r l = absurd (omega arith)

pub digits_small : (bs : List ℕ) (p v q n : ℕ) → (x : Digits bs p v q) → length x.chars ≡ n → n < 4 → v < 4096
digits_small bs p v q n x l h = let k = run_small (utf8 bs) p q x.chars x.run (omega arith) in omega (arith, x.value)

pub digits_done : (bs : List ℕ) (p v q r n : ℕ) → (x : Digits bs p v q) → length x.chars ≡ n → r ≡ q → (y : Digits bs p v r) × (length y.chars ≡ n)
digits_done bs p v q r n x l e = subst (λ (z : ℕ). (y : Digits bs p v z) × (length y.chars ≡ n)) (sym e) (x, l)

-- a reader of digits that began at p took n of them, with value v
pub record Took (bs : List ℕ) (p : ℕ) (r : HexDigits) (v n : ℕ) : Type 0 where
  pub text : r.site.bytes.now ≡ bs
  pub digits : Digits bs p v r.site.at
  pub count : length digits.chars ≡ n

pub took_none : (r : HexDigits) → Took r.site.bytes.now r.site.at r 0 0
took_none r = let d = digits_none r.site.bytes.now r.site.at r.site.at refl (at_site r.site) in record { text = refl; digits = d.0; count = d.1 }

pub took_more : (bs : List ℕ) (p v n d : ℕ) (r s : HexDigits) → Took bs p r v n → TakesHex r (Some d) s → Took bs p s (v * 16 + d) (n + 1)
took_more bs p v n d r s t (e, f, g, _) =
    let x = digits_more bs p v r.site.at s.site.at n d f t.digits t.count (subst (λ (z : List ℕ). Digit hex_digits z r.site.at d) t.text g) in
    record { text = e ∙ t.text; digits = x.0; count = x.1 }

pub took_first : (r s : HexDigits) (d : ℕ) → TakesHex r (Some d) s → Took r.site.bytes.now r.site.at s d 1
took_first r s d h = subst (λ (z : ℕ). Took r.site.bytes.now r.site.at s z 1) (omega arith) (took_more r.site.bytes.now r.site.at 0 0 d r s (took_none r) h)

pub took_end : (bs : List ℕ) (p v n : ℕ) (r s : HexDigits) → Took bs p r v n → TakesHex r None s → Took bs p s v n × Ahead (utf8 bs s.site.at) (but hex_digits) true
took_end bs p v n r s t (e, f, g) =
    let x = digits_done bs p v r.site.at s.site.at n t.digits t.count f in (
      record { text = e ∙ t.text; digits = x.0; count = x.1 },
      subst (λ (z : ℕ). Ahead (utf8 bs z) (but hex_digits) true) (sym f) (subst (λ (z : List ℕ). Ahead (utf8 z r.site.at) (but hex_digits) true) t.text g),
    )

pub took_small : (bs : List ℕ) (p v n : ℕ) (r : HexDigits) → Took bs p r v n → n < 4 → v < 4096
took_small bs p v n r t l = digits_small bs p v r.site.at n t.digits t.count l

-- all of them
pub took_all : (bs : List ℕ) (p v n : ℕ) (r s : HexDigits) (ds : List ℕ) → Took bs p r v n → Yields TakesHex r ds s → (w : ℕ) × Took bs p s w (n + length ds)
took_all bs p v n r s [] t e = (v, subst (λ (z : ℕ). Took bs p s v z) (omega arith) (subst (λ (z : HexDigits). Took bs p z v n) e t))
took_all bs p v n r s (d ∷ ds) t (j, k, l) =
    let (w, x) = took_all bs p (v * 16 + d) (n + 1) j s ds (took_more bs p v n d r j t k) l in
    (w, subst (λ (z : ℕ). Took bs p s w z) (omega arith) x)

pub skipped : (b r s : HexDigits) (ds : List ℕ) (q : ℕ) → Yields TakesHex b ds r → TakesHex r None s → q ≡ b.site.at + length ds → Skipped b.site.bytes.now b.site.at q
skipped b r s ds q y e f =
    let (v, t) = took_all b.site.bytes.now b.site.at 0 0 b r ds (took_none b) y in
    let (u, a) = took_end b.site.bytes.now b.site.at v (0 + length ds) r s t e in
    let g : q ≡ s.site.at = omega (arith, u.digits.moves, u.count) in
    subst (Skipped b.site.bytes.now b.site.at) (sym g) (v, u.digits, a)

-- code points
pub digits_lift : (bs : List ℕ) (p v q r n d : ℕ) → r ≡ q + 1 → (x : Digits bs p v q) → length x.chars ≡ n → Digit hex_digits bs q d → v ≤ 1114111 → 1114111 < v * 16 + d → (w : ℕ) × (y : Digits bs p w r) × T (meets (just_above 0x10FFFF) y.chars)
unfolding digits_more
digits_lift bs p v q r n d e x l y h k =
    (v * 16 + d, (digits_more bs p v q r n d e x l y).0, meets_lifted 1114111 y.char x.chars (omega (arith, x.value)) (omega (arith, x.value, y.value, mv_push 16 y.char x.chars)))

pub digits_fit : (bs : List ℕ) (p v q : ℕ) → (x : Digits bs p v q) → 0 < length x.chars → v ≤ 1114111 → T (meets code_point x.chars)
digits_fit bs p v q x l h = go x.chars l (omega (arith, x.value))
  where
    go : (ds : List ℕ) → 0 < length ds → mv 16 ds ≤ 1114111 → T (meets code_point ds)
    go [] l k = absurd (omega arith)
    go (d ∷ ds) l k = meets_most 1114111 d ds k

pub took_lift : (bs : List ℕ) (p v n d : ℕ) (r s : HexDigits) → Took bs p r v n → v ≤ 1114111 → TakesHex r (Some d) s → 1114111 < v * 16 + d
    → (w : ℕ) × (y : Digits bs p w s.site.at) × T (meets (just_above 0x10FFFF) y.chars)
took_lift bs p v n d r s t l (_, f, g, _) k =
    digits_lift bs p v r.site.at s.site.at n d f t.digits t.count (subst (λ (z : List ℕ). Digit hex_digits z r.site.at d) t.text g) l k

pub took_fit : (bs : List ℕ) (p v n : ℕ) (r : HexDigits) → (t : Took bs p r v n) → 0 < n → v ≤ 1114111 → T (meets code_point t.digits.chars)
took_fit bs p v n r t l m = digits_fit bs p v r.site.at t.digits (omega (arith, t.count)) m
