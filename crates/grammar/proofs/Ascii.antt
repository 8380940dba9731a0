-- Bytes below 128 as characters, and lookaheads by the byte at a place: for readers of UTF-8 bytes.
use Rattle.std.proofs.Common.{◌≡◌, ℕ, ◌+◌, ◌<◌, Bool, true, ◌&&◌, T, ltb, leb, List, [], ◌∷◌, ◌++◌, length, get_or, drop, IsUtf8, sym, refl, ap, ◌∙◌, subst, ⊎_elim, arith, ltb→lt, leb→le}
use lib.Dec.{not_T}
use lib.Utf8.{encode}
use Rattle.std.specs.Char.{len_utf8}
use Rattle.std.proofs.lemmas.List.{drop_more}
use Rattle.std.proofs.lemmas.Str.{IsCharBoundary-before_ascii, encode_ascii, len_utf8_ascii, byte_from_char}
use Rattle.grammar.specs.Text.{Spot, over, char}
use Rattle.grammar.specs.Utf8.{utf8}
use Rattle.grammar.specs.Rule.{Span, within, among, but, Ahead}
use Rattle.grammar.proofs.Classes.{both, either}
use Rattle.grammar.proofs.Utf8.{spelt_stand, characters_stand}

-- a byte below 128 is a character
pub ascii_at : (bs : List ℕ) (p : ℕ) → IsUtf8 bs → p < length bs → get_or bs p 0 < 128 → utf8 bs p ≡ char (get_or bs p 0) (p + 1)
ascii_at bs p u l h =
    let b : ℕ = get_or bs p 0 in
    let w : len_utf8 b ≡ 1 = len_utf8_ascii b h in
    let e : drop p bs ≡ encode b ++ drop (p + len_utf8 b) bs = drop_more bs p 0 l ∙ ap (λ (z : List ℕ). z ++ drop (p + 1) bs) (sym (encode_ascii b h)) ∙ ap (λ (z : ℕ). encode b ++ drop (p + z) bs) (sym w) in
    spelt_stand bs p b u (IsCharBoundary-before_ascii bs p l h) e ∙ ap (λ (z : ℕ). char b (p + z)) w

-- a character below 128 is the byte at its place
pub byte_at : (bs : List ℕ) (p c q : ℕ) → IsUtf8 bs → utf8 bs p ≡ char c q → c < 128 → (get_or bs p 0 ≡ c) × (q ≡ p + 1)
byte_at bs p c q u e h =
    let s = characters_stand bs p c q u e in
    (ap (λ (z : List ℕ). get_or z 0 0) (sym (drop_more bs p 0 s.within)) ∙ byte_from_char (drop p bs) (drop q bs) c s.spelt h, s.wide ∙ ap (λ (z : ℕ). p + z) (len_utf8_ascii c h))

-- spans of numbers below 128
abbrev pub low : List Span → Bool
low [] = true
low (s ∷ ss) = ltb s.1 128 && low ss

pub among_low : (c : ℕ) (ss : List Span) → T (low ss) → T (among c ss) → c < 128
among_low c [] l h = absurd h
among_low c (s ∷ ss) l h =
    let (l₀, l₁) = both (ltb s.1 128) (low ss) l in
    ⊎_elim (λ k. omega (arith, ltb→lt s.1 128 l₀, leb→le c s.1 (both (leb s.0 c) (leb c s.1) k).1)) (λ k. among_low c ss l₁ k) (either (within c s) (among c ss) h)

-- [lookahead ∉ ss], where the byte is none of ss
pub lookahead_not_at : (bs : List ℕ) (p : ℕ) (ss : List Span) → T (low ss) → IsUtf8 bs → (p < length bs → T (among (get_or bs p 0) ss) → ⊥) → Ahead (utf8 bs p) (but ss) true
lookahead_not_at bs p ss l u h = go (utf8 bs p) refl
  where
    go : (s : Spot) → utf8 bs p ≡ s → Ahead s (but ss) true
    go over e = tt
    go (char c q) e =
        not_T (among c ss) (λ k. h (characters_stand bs p c q u e).within (subst (λ (z : ℕ). T (among z ss)) (sym (byte_at bs p c q u e (among_low c ss l k)).0) k))
