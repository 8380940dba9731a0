-- The characters between two places, one by one. Assumes nothing.
use Rattle.std.proofs.Common.{◌≡◌, ℕ, ◌+◌, ◌-◌, ◌<◌, ◌≤◌, true, List, [], ◌∷◌, ◌++◌, length, take, drop, IsUtf8, sym, refl, ap, ◌∙◌, subst, append_assoc, arith, length-append}
use lib.Utf8.{encode, encodes, scalar, scalars}
use Rattle.std.specs.Char.{len_utf8}
use Rattle.std.specs.Str.{chars}
use Rattle.std.proofs.lemmas.List.{take_at}
use Rattle.std.proofs.lemmas.Bool.{and_parts}
use Rattle.std.proofs.lemmas.Str.{IsUtf8-between, scalars-chars, chars-encodes, drop_past_char, length-encode, chars-nil}
use Rattle.grammar.specs.Text.{char}
use Rattle.grammar.specs.Utf8.{utf8}
use Rattle.grammar.proofs.Runs.{same_char}
use Rattle.escapes.specs.Places.{At}
use Rattle.pieces.specs.Plain.{spelt}
use Rattle.pieces.proofs.Plains.{spelt_bytes, char_spelt}

-- the first of them
record First (bs : List ℕ) (p q : ℕ) : Type 0 where
  head : ℕ
  step : utf8 bs p ≡ char head (p + len_utf8 head)
  within : p + len_utf8 head ≤ q
  rest : spelt bs p q ≡ head ∷ spelt bs (p + len_utf8 head) q

first : (bs : List ℕ) (p q : ℕ) → At bs p → At bs q → p < q → First bs p q
first bs p q a b l = go (spelt bs p q) refl
  where
    w : IsUtf8 (take (q - p) (drop p bs))
    w = IsUtf8-between bs p q a.text (omega arith) a.boundary b.boundary

    s : (drop p bs ≡ encodes (spelt bs p q) ++ drop q bs) × (p + length (encodes (spelt bs p q)) ≡ q)
    s = spelt_bytes bs p q a b (omega arith)

    go : (ds : List ℕ) → spelt bs p q ≡ ds → First bs p q
    go [] e = let k : p + length (encodes []) ≡ q = subst (λ (z : List ℕ). p + length (encodes z) ≡ q) e s.1 in absurd (omega arith)
    go (d ∷ ds) e =
        let f : drop p bs ≡ encodes (d ∷ ds) ++ drop q bs = subst (λ (z : List ℕ). drop p bs ≡ encodes z ++ drop q bs) e s.0 in
        let k : p + length (encodes (d ∷ ds)) ≡ q = subst (λ (z : List ℕ). p + length (encodes z) ≡ q) e s.1 in
        let g : drop p bs ≡ encode d ++ (encodes ds ++ drop q bs) = f ∙ append_assoc (encode d) (encodes ds) (drop q bs) in
        let n = length-append (encode d) (encodes ds) in
        let m = length-encode d in
        let c : scalars (d ∷ ds) ≡ true = subst (λ (z : List ℕ). scalars z ≡ true) e (scalars-chars (take (q - p) (drop p bs)) w) in
        let r : spelt bs (p + len_utf8 d) q ≡ ds =
        ap (λ (z : List ℕ). chars (take (q - (p + len_utf8 d)) z)) (drop_past_char bs (encodes ds ++ drop q bs) p d g)
        ∙ ap chars (take_at (encodes ds) (drop q bs) (q - (p + len_utf8 d)) (omega arith)) ∙ chars-encodes ds (and_parts (scalar d) (scalars ds) c).1 in
        record { head = d; step = (char_spelt bs (encodes ds ++ drop q bs) p d a g).0; within = omega arith; rest = e ∙ ap (λ (z : List ℕ). d ∷ z) (sym r) }

-- taking the character at the front
pub spelt_step : (bs : List ℕ) (p q c r : ℕ) → At bs p → At bs q → p < q → utf8 bs p ≡ char c r → (r ≤ q) × (spelt bs p q ≡ c ∷ spelt bs r q)
spelt_step bs p q c r a b l s =
    let f = first bs p q a b l in
    let (i, j) = same_char s f.step in
    (omega (arith, f.within), subst (λ (z : ℕ). spelt bs p q ≡ z ∷ spelt bs r q) (sym i) (subst (λ (z : ℕ). spelt bs p q ≡ f.head ∷ spelt bs z q) (sym j) f.rest))

pub spelt_none : (bs : List ℕ) (p q : ℕ) → q ≤ p → spelt bs p q ≡ []
spelt_none bs p q l = ap (λ (z : ℕ). chars (take z (drop p bs))) (let k : q - p ≡ 0 = omega arith in k) ∙ nothing (drop p bs)
  where
    nothing : (xs : List ℕ) → chars (take 0 xs) ≡ []
    nothing [] = chars-nil
    nothing (x ∷ xs) = chars-nil
