-- Lists one after another in cells: the cells between two places, and cells written one after another. Assumes nothing.
use Rattle.std.proofs.Common.{◌≡◌, ℕ, zero, suc, ◌+◌, ◌-◌, ◌<◌, ◌≤◌, true, leb, List, [], ◌∷◌, ◌++◌, length, get_or, take, drop, set, sym, refl, ap, ◌∙◌, add-zero, zero-add, arith}
use Rattle.std.proofs.lemmas.List.{length-take, length-drop, length-set, drop-set-lt, take_more_set, append_assoc, take-append-drop}
use Rattle.std.proofs.lemmas.Bool.{leb-true, le-leb, and_parts, and_from}
use Rattle.store.specs.Held.{weighed}
use Rattle.store.specs.Cuts.{part, cut, final, ordered, laid}

pub part_length : {T : Type 0} (m : List T) (a b : ℕ) → a ≤ b → b ≤ length m → length (part m a b) ≡ b - a
part_length m a b h k = let e = length-take (b - a) (drop a m) in let f = length-drop a m in omega arith

pub step : (s e : ℕ) (es : List ℕ) (u : ℕ) → ordered s (e ∷ es) u ≡ true → (s ≤ e) × (ordered e es u ≡ true)
step s e es u h = let p = and_parts (leb s e) (ordered e es u) h in (leb-true s e p.0, p.1)

pub final_within : (s : ℕ) (es : List ℕ) (u : ℕ) → ordered s es u ≡ true → (s ≤ final s es) × (final s es ≤ u)
final_within s [] u h = (omega arith, leb-true s u h)
final_within s (e ∷ es) u h = let p = step s e es u h in let q = final_within e es u p.1 in (omega (arith, p.0, q.0), q.1)

pub ordered_up : (s : ℕ) (es : List ℕ) (u v : ℕ) → u ≤ v → ordered s es u ≡ true → ordered s es v ≡ true
ordered_up s [] u v le h = le-leb s v (let k = leb-true s u h in omega arith)
ordered_up s (e ∷ es) u v le h = let p = and_parts (leb s e) (ordered e es u) h in and_from (leb s e) (ordered e es v) p.0 (ordered_up e es u v le p.1)

pub ordered_final : (s : ℕ) (es : List ℕ) (u : ℕ) → ordered s es u ≡ true → ordered s es (final s es) ≡ true
ordered_final s [] u h = le-leb s s (omega arith)
ordered_final s (e ∷ es) u h = let p = and_parts (leb s e) (ordered e es u) h in and_from (leb s e) (ordered e es (final e es)) p.0 (ordered_final e es u p.1)

pub ordered_snoc : (s : ℕ) (es : List ℕ) (u : ℕ) → ordered s es u ≡ true → ordered s (es ++ (u ∷ [])) u ≡ true
ordered_snoc s [] u h = and_from (leb s u) (leb u u) h (le-leb u u (omega arith))
ordered_snoc s (e ∷ es) u h = let p = and_parts (leb s e) (ordered e es u) h in and_from (leb s e) (ordered e (es ++ (u ∷ [])) u) p.0 (ordered_snoc e es u p.1)

pub final_snoc : (s : ℕ) (es : List ℕ) (u : ℕ) → final s (es ++ (u ∷ [])) ≡ u
final_snoc s [] u = refl
final_snoc s (e ∷ es) u = final_snoc e es u

pub cut_snoc : {T : Type 0} (m : List T) (s : ℕ) (es : List ℕ) (u : ℕ) → cut m s (es ++ (u ∷ [])) ≡ cut m s es ++ (part m (final s es) u ∷ [])
cut_snoc m s [] u = refl
cut_snoc m s (e ∷ es) u = ap (λ t. part m s e ∷ t) (cut_snoc m e es u)

pub cut_length : {T : Type 0} (m : List T) (s : ℕ) (es : List ℕ) → length (cut m s es) ≡ length es
cut_length m s [] = refl
cut_length m s (e ∷ es) = ap suc (cut_length m e es)

pub weighed_is : (m : List ℕ) (s : ℕ) (es : List ℕ) (u : ℕ) → ordered s es u ≡ true → u ≤ length m → weighed length (cut m s es) + s ≡ final s es
weighed_is m s [] u h k = zero-add s
weighed_is m s (e ∷ es) u h k =
    let p = step s e es u h in
    let q = final_within e es u p.1 in
    let r = weighed_is m e es u p.1 k in
    let t = part_length m s e p.0 (omega (arith, q.0, q.1)) in
    omega (arith, p.0, q.0)

-- list n
pub cut_at : {T : Type 0} (m : List T) (s : ℕ) (es : List ℕ) (n : ℕ) → n < length es → get_or (cut m s es) n [] ≡ part m (final s (take n es)) (get_or es n 0)
cut_at m s [] n h = absurd (omega arith)
cut_at m s (e ∷ es) zero h = refl
cut_at m s (e ∷ es) (suc n) h = cut_at m e es n (omega arith)

pub at_within : (s : ℕ) (es : List ℕ) (u n : ℕ) → ordered s es u ≡ true → n < length es → (final s (take n es) ≤ get_or es n 0) × (get_or es n 0 ≤ u)
at_within s [] u n h k = absurd (omega arith)
at_within s (e ∷ es) u zero h k = let p = step s e es u h in let q = final_within e es u p.1 in (p.0, omega (arith, q.0, q.1))
at_within s (e ∷ es) u (suc n) h k = at_within e es u n (step s e es u h).1 (omega arith)

-- one cell more laid behind others
pub laid_more : {T : Type 0} (m : List T) (i : ℕ) (us : List T) (x : T) → laid m i (us ++ (x ∷ [])) ≡ set (laid m i us) (i + length us) x
laid_more m i [] x = ap (λ n. set m n x) (sym (add-zero i))
laid_more m i (u ∷ us) x = let e : i + 1 + length us ≡ i + suc (length us) = omega arith in laid_more (set m i u) (i + 1) us x ∙ ap (λ n. set (laid (set m i u) (i + 1) us) n x) e

-- laid from a place on, and from the front
laid_is : (m : List ℕ) (i : ℕ) (us : List ℕ) → i + length us ≤ length m → laid m i us ≡ take i m ++ (us ++ drop (i + length us) m)
laid_is m i [] h = sym (take-append-drop i m) ∙ ap (λ k. take i m ++ drop k m) (sym (add-zero i))
laid_is m i (u ∷ us) h =
    let l = length-set m i u in
    let e : i + 1 + length us ≡ i + suc (length us) = omega arith in
    laid_is (set m i u) (i + 1) us (omega arith)
    ∙ (λ j. take_more_set m i u (omega arith) j ++ (us ++ drop-set-lt (i + 1 + length us) m i u (omega arith) j))
    ∙ append_assoc (take i m) (u ∷ []) (us ++ drop (i + 1 + length us) m)
    ∙ ap (λ k. take i m ++ (u ∷ (us ++ drop k m))) e

pub laid_front : (m : List ℕ) (us : List ℕ) → length us ≤ length m → laid m 0 us ≡ us ++ drop (length us) m
laid_front m us h = let e : 0 + length us ≡ length us = omega arith in laid_is m 0 us (omega arith) ∙ ap (λ k. us ++ drop k m) e
