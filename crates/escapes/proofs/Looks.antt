-- What a byte at a place tells of the character there. Assumes nothing.
use Rattle.std.proofs.Common.{◌≡◌, ℕ, ◌+◌, ◌-◌, ◌<◌, ◌≤◌, true, T, List, [], ◌∷◌, ◌++◌, length, get_or, drop, Some, sym, refl, ap, ◌∙◌, subst, ⊎_elim, arith, T_not, length-drop}
use lib.Dec.{not_T}
use lib.Utf8.{encode, scalar_cases}
use Rattle.std.specs.Char.{len_utf8}
use Rattle.std.specs.Str.{IsCharBoundary}
use Rattle.std.proofs.lemmas.List.{drop_more, get_or-drop}
use Rattle.std.proofs.lemmas.Str.{IsUtf8-drop, len_utf8_ascii, len_utf8_bounds, byte_from_char, IsCharBoundary-after_ascii, IsCharBoundary-past_char}
use Rattle.grammar.specs.Text.{Spot, over, char}
use Rattle.grammar.specs.Utf8.{utf8}
use Rattle.grammar.specs.Rule.{Span, Ahead, but, among}
use Rattle.grammar.specs.Production.{points}
use Rattle.grammar.proofs.Ascii.{ascii_at, low, among_low, lookahead_not_at}
use Rattle.grammar.proofs.Utf8.{spelt_stand, nothing_past}
use Rattle.source.specs.declared.cursor.Cursor.{Cursor}
use Rattle.source.specs.Fronts.{Begins}
use Rattle.source.specs.Texts.{CharAt, WellFormed}
use Rattle.source.proofs.Known.{utf8_from}
use Rattle.escapes.specs.Places.{At, Stands, Here}
use Rattle.escapes.specs.declared.places.Site.{Site}

-- a cursor's place, and a reader's
pub at_cursor : (c : Cursor) → At c.bytes.now c.place.at
at_cursor c = record { text = utf8_from c.bytes.now c.well; boundary = c.boundary }

pub at_site : (s : Site) → At s.bytes.now s.at
at_site s = record { text = utf8_from s.bytes.now s.well; boundary = s.boundary }

-- a cursor's character
pub stands : (bs : List ℕ) (p c q : ℕ) → At bs p → CharAt bs p (Some (c, q)) → Stands bs p c q
stands bs p c q a (s, e, w) =
    let f : drop p bs ≡ encode c ++ drop (p + len_utf8 c) bs = subst (λ (z : ℕ). drop p bs ≡ encode c ++ drop z bs) w e in
    record {
      at = a;
      spelt = e;
      step = spelt_stand bs p c a.text a.boundary f ∙ ap (char c) (sym w);
      behind = record { text = a.text; boundary = subst (IsCharBoundary bs) (sym w) (IsCharBoundary-past_char bs (drop (p + len_utf8 c) bs) p c a.boundary.0 (IsUtf8-drop bs p a.text a.boundary) f) };
      moves = w;
      small = ⊎_elim (λ k. omega arith) (λ k. k.1) (scalar_cases c s);
    }

-- the same of a cursor's bytes and place as calls told them
pub stands_by : (bs bs' : List ℕ) (p p' c q : ℕ) → bs' ≡ bs → p' ≡ p → WellFormed bs → IsCharBoundary bs p → CharAt bs p (Some (c, q)) → Stands bs' p' c q
stands_by bs bs' p p' c q e f w b h =
    subst (λ (z : List ℕ). Stands z p' c q) (sym e) (subst (λ (z : ℕ). Stands bs z c q) (sym f) (stands bs p c q (record { text = utf8_from bs w; boundary = b }) h))

pub over_at : (bs : List ℕ) (p : ℕ) → p ≡ length bs → utf8 bs p ≡ over
over_at bs p e = nothing_past bs p (omega arith)

pub stands_moves : (bs : List ℕ) (p c q : ℕ) → Stands bs p c q → p < q
stands_moves bs p c q s = let w = len_utf8_bounds c in omega (arith, s.moves)

-- a byte below 128 is a character
pub here : (bs : List ℕ) (p : ℕ) → At bs p → p < length bs → get_or bs p 0 < 128 → Here bs p (get_or bs p 0)
here bs p a l b =
    record { at = a; byte = refl; step = ascii_at bs p a.text l b; low = b; within = l; behind = record { text = a.text; boundary = IsCharBoundary-after_ascii bs p a.text l b } }

pub stands_here : (bs : List ℕ) (p c q : ℕ) → Stands bs p c q → c < 128 → Here bs p c
stands_here bs p c q s l =
    let e : q ≡ p + 1 = s.moves ∙ ap (λ (z : ℕ). p + z) (len_utf8_ascii c l) in
    let i : get_or bs p 0 ≡ get_or bs (p + 0) 0 = ap (λ (k : ℕ). get_or bs k 0) (omega arith) in
    record {
      at = s.at;
      byte = i ∙ sym (get_or-drop p bs 0 0) ∙ byte_from_char (drop p bs) (drop q bs) c s.spelt l;
      step = s.step ∙ ap (char c) e;
      low = l;
      within = omega (arith, s.behind.boundary.0);
      behind = subst (At bs) e s.behind;
    }

-- nothing stands at the end
pub ahead_end : (bs : List ℕ) (p : ℕ) (ss : List Span) → length bs ≤ p → Ahead (utf8 bs p) (but ss) true
ahead_end bs p ss l = subst (λ (z : Spot). Ahead z (but ss) true) (sym (nothing_past bs p l)) tt

-- a byte from 128 on is no character of ASCII
pub no_ascii : (bs : List ℕ) (p : ℕ) → At bs p → p < length bs → 128 ≤ get_or bs p 0 → Ahead (utf8 bs p) (but ((0, 127) ∷ [])) true
no_ascii bs p a l h = lookahead_not_at bs p ((0, 127) ∷ []) tt a.text (λ _ k. omega (arith, among_low (get_or bs p 0) ((0, 127) ∷ []) tt k))

-- where no character of ASCII stands, none of a class below 128 does
pub ahead_low : (s : Spot) (ss : List Span) → T (low ss) → Ahead s (but ((0, 127) ∷ [])) true → Ahead s (but ss) true
ahead_low over ss l h = tt
ahead_low (char c q) ss l h = not_T (among c ss) (λ k. T_not (among c ((0, 127) ∷ [])) h (low_among c (among_low c ss l k)))
  where
    low_among : (c : ℕ) → c < 128 → T (among c ((0, 127) ∷ []))
    low_among c k = grind arith

-- nor one of a class that the character there is not in
pub ahead_here : {bs : List ℕ} {p c : ℕ} (ss : List Span) → Here bs p c → (T (among c ss) → ⊥) → Ahead (utf8 bs p) (but ss) true
ahead_here {bs} {p} {c} ss x h = subst (λ (z : Spot). Ahead z (but ss) true) (sym x.step) (not_T (among c ss) h)

-- two leading bytes of ASCII, as characters
pub two_here : (bs : List ℕ) (p a b : ℕ) → At bs p → a < 128 → b < 128 → Begins a b (drop p bs) → Here bs p a × Here bs (p + 1) b
two_here bs p a b x l k (rest, e) =
    let n : length bs - p ≡ 2 + length rest = sym (length-drop p bs) ∙ ap length e ∙ omega arith in
    let f : get_or bs p 0 ≡ a = ap (λ (i : ℕ). get_or bs i 0) (omega arith) ∙ sym (get_or-drop p bs 0 0) ∙ ap (λ (xs : List ℕ). get_or xs 0 0) e in
    let g : get_or bs (p + 1) 0 ≡ b = sym (get_or-drop p bs 1 0) ∙ ap (λ (xs : List ℕ). get_or xs 1 0) e in
    let h = subst (Here bs p) f (here bs p x (omega arith) (omega arith)) in
    (h, subst (Here bs (p + 1)) g (here bs (p + 1) h.behind (omega arith) (omega arith)))

-- and where they do not stand, the second does not follow the first
pub second_ahead : (bs : List ℕ) (p a b : ℕ) → b < 128 → Here bs p a → (Begins a b (drop p bs) → ⊥) → Ahead (utf8 bs (p + 1)) (but (points (b ∷ []))) true
second_ahead bs p a b k h n =
    lookahead_not_at bs (p + 1) (points (b ∷ [])) (low_one b k) h.at.text (λ l j. n (begins l (same (get_or bs (p + 1) 0) b j)))
  where
    same : (c b : ℕ) → T (among c (points (b ∷ []))) → c ≡ b
    same c b j = grind arith

    low_one : (b : ℕ) → b < 128 → T (low (points (b ∷ [])))
    low_one b k = grind arith

    begins : p + 1 < length bs → get_or bs (p + 1) 0 ≡ b → Begins a b (drop p bs)
    begins l e = (
      drop (p + 1 + 1) bs,
      drop_more bs p 0 h.within ∙ ap (λ (z : ℕ). z ∷ drop (p + 1) bs) h.byte
          ∙ ap (λ (z : List ℕ). a ∷ z) (drop_more bs (p + 1) 0 l ∙ ap (λ (z : ℕ). z ∷ drop (p + 1 + 1) bs) e),
    )
