-- The characters of UTF-8 bytes.
use Rattle.std.proofs.Common.{◌≡◌, ℕ, ◌+◌, ◌<◌, ◌≤◌, Bool, true, false, cond, ◌&&◌, T, leb, List, [], ◌∷◌, ◌++◌, length, get_or, drop, IsUtf8, sym, refl, ap, ◌∙◌, subst, ⊎_elim, arith, le→leb, leb→le, T_not}
use native.Mathlib.Decide.{dec_lt}
use lib.Dec.{not_T}
use lib.Utf8.{encode, encodes, scalar, scalars, scalar_cases}
use Rattle.std.specs.Char.{len_utf8}
use Rattle.std.specs.Str.{IsCharBoundary, chars}
use Rattle.std.proofs.lemmas.List.{drop_all, get_or_past}
use Rattle.std.proofs.lemmas.Str.{IsUtf8-drop, chars-nil, chars_past_char, encodes-chars, scalars-chars, drop_past_char, IsCharBoundary-past_char, len_utf8_bounds}
use Rattle.grammar.specs.Text.{Spot, over, char}
use Rattle.grammar.specs.Utf8.{leads, first_of, Standing, CharactersStand, SpeltStand, NothingPast, NothingInside}
use Rattle.grammar.proofs.Classes.{both, pair}

char_over : {c q : ℕ} → over ≡ char c q → ⊥
char_over e = let z : ◌≡◌ {A = ℕ} 0 1 = cc in omega (arith, z)

is_true : (b : Bool) → T b → b ≡ true
is_true true h = refl
is_true false h = absurd h

-- a byte that leads stands at a boundary, and the other way round

leads_at : (bs : List ℕ) (p : ℕ) → IsCharBoundary bs p → T (leads (get_or bs p 0))
leads_at bs p b =
    let c : ℕ = get_or bs p 0 in
    not_T (leb 0x80 c && leb c 0xBF) (λ h. let (x, y) = both (leb 0x80 c) (leb c 0xBF) h in go (dec_lt p (length bs)) (leb→le 0x80 c x) (leb→le c 0xBF y))
  where
    go : Dec (p < length bs) → 0x80 ≤ get_or bs p 0 → get_or bs p 0 ≤ 0xBF → ⊥
    go (yes l) x y = omega (arith, b.1 l x)
    go (no n) x y = omega (arith, get_or_past bs p 0 (omega arith))

boundary_by : (bs : List ℕ) (p : ℕ) → p < length bs → T (leads (get_or bs p 0)) → IsCharBoundary bs p
boundary_by bs p l h = (omega arith, λ k x. go x (dec_lt (get_or bs p 0) 192))
  where
    go : 128 ≤ get_or bs p 0 → Dec (get_or bs p 0 < 192) → 192 ≤ get_or bs p 0
    go x (yes y) = absurd (T_not (leb 0x80 (get_or bs p 0) && leb (get_or bs p 0) 0xBF) h (pair (leb 0x80 (get_or bs p 0)) (leb (get_or bs p 0) 0xBF) (le→leb 0x80 (get_or bs p 0) x) (le→leb (get_or bs p 0) 0xBF (omega arith))))
    go x (no n) = omega arith

-- a character spelt out

pub spelt_stand : SpeltStand
spelt_stand bs p c u b e =
    ap (λ (z : Bool). cond z (first_of p (chars (drop p bs))) over) (is_true (leads (get_or bs p 0)) (leads_at bs p b))
    ∙ ap (first_of p) (chars_past_char (drop p bs) (drop (p + len_utf8 c) bs) c (IsUtf8-drop bs p u b) e)

-- nothing past the end or inside a character

past : (bs : List ℕ) (p : ℕ) → length bs ≤ p → first_of p (chars (drop p bs)) ≡ over
past bs p l = ap (λ (z : List ℕ). first_of p (chars z)) (drop_all p bs l) ∙ ap (first_of p) chars-nil

over_both : (b : Bool) (s : Spot) → s ≡ over → cond b s over ≡ over
over_both true s e = e
over_both false s e = refl

pub nothing_past : NothingPast
nothing_past bs p l = over_both (leads (get_or bs p 0)) (first_of p (chars (drop p bs))) (past bs p l)

pub nothing_inside : NothingInside
nothing_inside bs p n = go (leads (get_or bs p 0)) (λ h. h) (dec_lt p (length bs))
  where
    go : (b : Bool) → (T b → T (leads (get_or bs p 0))) → Dec (p < length bs) → cond b (first_of p (chars (drop p bs))) over ≡ over
    go false h l = refl
    go true h (yes l) = absurd (n (boundary_by bs p l (h tt)))
    go true h (no l) = past bs p (omega arith)

-- what is known of a character that stands

scalar_first : (x y : Bool) → x && y ≡ true → x ≡ true
scalar_first true y e = refl
scalar_first false y e = e

small : (c : ℕ) → scalar c ≡ true → c < 0x110000
small c s = ⊎_elim (λ h. omega arith) (λ h. h.1) (scalar_cases c s)

spelt_by : (bs : List ℕ) (p c : ℕ) (cs : List ℕ) → IsUtf8 bs → IsCharBoundary bs p → p < length bs → chars (drop p bs) ≡ c ∷ cs → Standing bs p c (p + len_utf8 c)
spelt_by bs p c cs u b l e =
    let v : IsUtf8 (drop p bs) = IsUtf8-drop bs p u b in
    let i : drop p bs ≡ encode c ++ encodes cs = sym (encodes-chars (drop p bs) v) ∙ ap encodes e in
    let j : drop (p + len_utf8 c) bs ≡ encodes cs = drop_past_char bs (encodes cs) p c i in
    let s : scalar c ≡ true = scalar_first (scalar c) (scalars cs) (ap scalars (sym e) ∙ scalars-chars (drop p bs) v) in
    let k : IsCharBoundary bs (p + len_utf8 c) = IsCharBoundary-past_char bs (encodes cs) p c b.0 v i in
    record {
      within = l;
      begins = b;
      further = omega (arith, (len_utf8_bounds c).0);
      inside = k.0;
      ends = k;
      wide = refl;
      spelt = i ∙ ap (λ (z : List ℕ). encode c ++ z) (sym j);
      small = small c s;
      value = s;
    }

pub characters_stand : CharactersStand
characters_stand bs p c q u h = at (leads (get_or bs p 0)) (λ x. x) (dec_lt p (length bs)) h
  where
    within : (cs : List ℕ) → p < length bs → IsCharBoundary bs p → chars (drop p bs) ≡ cs → first_of p cs ≡ char c q → Standing bs p c q
    within [] l b e x = absurd (char_over x)
    within (d ∷ ds) l b e x =
        let i : d ≡ c = cc in
        let j : p + len_utf8 d ≡ q = cc in
        subst (Standing bs p c) j (subst (λ (z : ℕ). Standing bs p z (p + len_utf8 d)) i (spelt_by bs p d ds u b l e))

    at : (b : Bool) → (T b → T (leads (get_or bs p 0))) → Dec (p < length bs) → cond b (first_of p (chars (drop p bs))) over ≡ char c q → Standing bs p c q
    at false f l x = absurd (char_over x)
    at true f (yes l) x = within (chars (drop p bs)) l (boundary_by bs p l (f tt)) refl x
    at true f (no l) x = absurd (char_over (sym (past bs p (omega arith)) ∙ x))
