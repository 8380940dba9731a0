-- A high half at the end of bytes. Assumes nothing.
use Rattle.std.proofs.Common.{◌≡◌, ℕ, ◌+◌, ◌-◌, ◌*◌, ◌/◌, ◌%◌, ◌<◌, ◌≤◌, true, ltb, leb, List, [], ◌∷◌, ◌++◌, length, get_or, take, drop, Some, None, Option, ◌⊎◌, inl, inr, sym, refl, ap, ◌∙◌, arith}
use lib.Utf8.{encode, next}
use Rattle.std.proofs.lemmas.List.{append_assoc, length-append, take-append-drop, drop_more, drop_all, get_or-append-add}
use Rattle.std.proofs.lemmas.Bool.{le-leb, lt-ltb, and_from, cond-true}
use Rattle.coding.specs.Codes.{high, wtf8, starts, units, trail, recode}
use Rattle.coding.proofs.Trips.{starts_0, trail_more, trail_high, wtf8_high, front, high_range, encode_3}

units_tail : (x t : List ℕ) → (p : List ℕ) × (units (x ++ t) ≡ p ++ units t)
units_tail [] t = ([], refl)
units_tail (b ∷ x) t = let q = units_tail x t in (starts b (x ++ t) ++ q.0, ap (λ z. starts b (x ++ t) ++ z) q.1 ∙ sym (append_assoc (starts b (x ++ t)) q.0 (units t)))

three_here : (b c : ℕ) → 160 ≤ b → b < 176 → 128 ≤ c → c < 192 → units (237 ∷ b ∷ c ∷ []) ≡ (53248 + (b % 64) * 64 + c % 64) ∷ []
three_here b c h k i j = λ t. (53248 + (b % 64) * 64 + c % 64) ∷ (starts_0 b (c ∷ []) (omega arith) (omega arith) t ++ (starts_0 c [] i j t ++ []))

last_three : (bs : List ℕ) → 3 ≤ length bs → bs ≡ take (length bs - 3) bs ++ (get_or bs (length bs - 3) 0 ∷ get_or bs (length bs - 2) 0 ∷ get_or bs (length bs - 1) 0 ∷ [])
last_three bs h =
    let n : ℕ = length bs in
    let e2 : n - 3 + 1 ≡ n - 2 = omega arith in
    let e1 : n - 2 + 1 ≡ n - 1 = omega arith in
    let e0 : n - 1 + 1 ≡ n = omega arith in
    let d0 : drop n bs ≡ [] = drop_all n bs (omega arith) in
    let d1 : drop (n - 1) bs ≡ get_or bs (n - 1) 0 ∷ [] = drop_more bs (n - 1) 0 (omega arith) ∙ ap (λ k. get_or bs (n - 1) 0 ∷ drop k bs) e0 ∙ ap (λ t. get_or bs (n - 1) 0 ∷ t) d0 in
    let d2 : drop (n - 2) bs ≡ get_or bs (n - 2) 0 ∷ get_or bs (n - 1) 0 ∷ [] = drop_more bs (n - 2) 0 (omega arith) ∙ ap (λ k. get_or bs (n - 2) 0 ∷ drop k bs) e1 ∙ ap (λ t. get_or bs (n - 2) 0 ∷ t) d1 in
    let d3 : drop (n - 3) bs ≡ get_or bs (n - 3) 0 ∷ get_or bs (n - 2) 0 ∷ get_or bs (n - 1) 0 ∷ [] = drop_more bs (n - 3) 0 (omega arith) ∙ ap (λ k. get_or bs (n - 3) 0 ∷ drop k bs) e2 ∙ ap (λ t. get_or bs (n - 3) 0 ∷ t) d2 in
    sym (take-append-drop (n - 3) bs) ∙ ap (λ t. take (n - 3) bs ++ t) d3

-- the three bytes are there: the half that they are
pub half_there : (bs : List ℕ) → 3 ≤ length bs → get_or bs (length bs - 3) 0 ≡ 237 → 160 ≤ get_or bs (length bs - 2) 0 → get_or bs (length bs - 2) 0 < 176 → 128 ≤ get_or bs (length bs - 1) 0 → get_or bs (length bs - 1) 0 < 192
    → Some (53248 + (get_or bs (length bs - 2) 0 % 64) * 64 + get_or bs (length bs - 1) 0 % 64) ≡ trail (units bs)
half_there bs long e h k i j =
    let b : ℕ = get_or bs (length bs - 2) 0 in
    let c : ℕ = get_or bs (length bs - 1) 0 in
    let v : ℕ = 53248 + (b % 64) * 64 + c % 64 in
    let q = units_tail (take (length bs - 3) bs) (237 ∷ b ∷ c ∷ []) in
    let is : units bs ≡ q.0 ++ (v ∷ []) = ap units (last_three bs long ∙ ap (λ t. take (length bs - 3) bs ++ (t ∷ b ∷ c ∷ [])) e) ∙ q.1 ∙ ap (λ t. q.0 ++ t) (three_here b c h k i j) in
    let hi : high v ≡ true = and_from (leb 55296 v) (ltb v 56320) (le-leb 55296 v (omega arith)) (lt-ltb v 56320 (omega arith)) in
    sym (ap trail is ∙ trail_more q.0 v ∙ cond-true (high v) (Some v) None hi)

-- what a half at the end leaves there
pub record Ended (bs : List ℕ) : Type 0 where
  pub long : 3 ≤ length bs
  pub lead : get_or bs (length bs - 3) 0 ≡ 237
  pub second : (160 ≤ get_or bs (length bs - 2) 0) × (get_or bs (length bs - 2) 0 < 176)
  pub third : (128 ≤ get_or bs (length bs - 1) 0) × (get_or bs (length bs - 1) 0 < 192)

pub half_ends : (bs : List ℕ) (t : ℕ) → recode bs ≡ bs → trail (units bs) ≡ Some t → Ended bs
half_ends bs t r h =
    let w : List ℕ = wtf8 (front (units bs)) in
    let g = high_range t (trail_high (units bs) t h) in
    let tail : List ℕ = (224 + t / 4096) ∷ next (t / 64) ∷ next t ∷ [] in
    let is : bs ≡ w ++ tail = sym r ∙ wtf8_high (units bs) t h ∙ ap (λ z. w ++ z) (encode_3 t (omega (arith, g.0)) (omega (arith, g.1))) in
    let n : length bs ≡ length w + 3 = ap length is ∙ length-append w tail in
    let a3 : length bs - 3 ≡ length w + 0 = omega arith in
    let a2 : length bs - 2 ≡ length w + 1 = omega arith in
    let a1 : length bs - 1 ≡ length w + 2 = omega arith in
    let b3 : get_or bs (length bs - 3) 0 ≡ 224 + t / 4096 = (λ j. get_or (is j) (a3 j) 0) ∙ get_or-append-add w tail 0 0 in
    let b2 : get_or bs (length bs - 2) 0 ≡ next (t / 64) = (λ j. get_or (is j) (a2 j) 0) ∙ get_or-append-add w tail 1 0 in
    let b1 : get_or bs (length bs - 1) 0 ≡ next t = (λ j. get_or (is j) (a1 j) 0) ∙ get_or-append-add w tail 2 0 in
    record {
      long = omega arith;
      lead = b3 ∙ omega (arith, g.0, g.1);
      second = (omega (arith, b2, g.0, g.1), omega (arith, b2, g.0, g.1));
      third = (omega (arith, b1), omega (arith, b1));
    }

-- without such an end no half
pub no_half : (bs : List ℕ) → recode bs ≡ bs → (None ≡ trail (units bs)) ⊎ Ended bs
no_half bs r = go (trail (units bs)) refl
  where
    go : (o : Option ℕ) → trail (units bs) ≡ o → (None ≡ o) ⊎ Ended bs
    go None e = inl refl
    go (Some t) e = inr (half_ends bs t r e)

-- bytes that begin with those of a code point
pub front_is : (c : ℕ) (x bs : List ℕ) → encode c ≡ x → take (length x) bs ≡ x → take (length (encode c)) bs ≡ encode c
front_is c x bs e f = ap (λ t. take (length t) bs) e ∙ f ∙ sym e
