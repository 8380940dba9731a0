-- The first stop from a boundary is a boundary, by the law of stop sets. Assumes nothing.
use Rattle.std.proofs.Common.{◌≡◌, ℕ, zero, suc, ◌+◌, ◌-◌, ◌/◌, ◌<◌, ◌≤◌, Bool, true, false, cond, ltb, List, [], ◌∷◌, ◌++◌, length, get_or, IfSome, Some, None, IsUtf8, Option, sym, refl, ap, ◌∙◌, subst, inl, inr, ⊎_elim, not-suc-le-zero, arith, length-append}
use lib.Utf8.{encode, encodes, scalar, scalars, scalar_cases, next}
use Rattle.std.proofs.lemmas.List.{get_or_append_left, get_or-append_right}
use Rattle.std.proofs.lemmas.Bool.{ltb-true, cases_lt, both_ways, and_parts}
use Rattle.std.specs.Str.{IsCharBoundary}
use Rattle.stops.specs.Stops.{Safe}
use Rattle.stops.specs.First.{Free, StopAt, FirstStop}

-- the bytes of one character: a lone byte, or a lead and what goes on
abbrev Goes : List ℕ → ℕ → Type 0
Goes bs j = (128 ≤ get_or bs j 0) × (get_or bs j 0 < 192)

abbrev Leads : List ℕ → Type 0
Leads bs = (192 ≤ get_or bs 0 0) × (get_or bs 0 0 ≤ 247)

abbrev form : Bool → Bool → Bool → ℕ → List ℕ
form x y z c = cond x (c ∷ []) (cond y ((192 + c / 64) ∷ next c ∷ []) (cond z ((224 + c / 4096) ∷ next (c / 64) ∷ next c ∷ []) ((240 + c / 262144) ∷ next (c / 4096) ∷ next (c / 64) ∷ next c ∷ [])))

below : (c : ℕ) → scalar c ≡ true → c < 1114112
below c s = ⊎_elim (λ h. omega arith) (λ h. h.1) (scalar_cases c s)

shape : (x y z : Bool) (c j : ℕ) → ltb c 2048 ≡ y → ltb c 65536 ≡ z → c < 1114112 → 0 < j → j < length (form x y z c) → Goes (form x y z c) j × Leads (form x y z c)
shape x y z c zero p q s h l = absurd (not-suc-le-zero h)
shape true y z c (suc j) p q s h l = absurd (omega arith)
shape false true z c (suc zero) p q s h l = let k = ltb-true c 2048 p in ((omega arith, omega arith), (omega arith, omega arith))
shape false true z c (suc (suc j)) p q s h l = absurd (omega arith)
shape false false true c (suc zero) p q s h l = let k = ltb-true c 65536 q in ((omega arith, omega arith), (omega arith, omega arith))
shape false false true c (suc (suc zero)) p q s h l = let k = ltb-true c 65536 q in ((omega arith, omega arith), (omega arith, omega arith))
shape false false true c (suc (suc (suc j))) p q s h l = absurd (omega arith)
shape false false false c (suc zero) p q s h l = ((omega arith, omega arith), (omega arith, omega arith))
shape false false false c (suc (suc zero)) p q s h l = ((omega arith, omega arith), (omega arith, omega arith))
shape false false false c (suc (suc (suc zero))) p q s h l = ((omega arith, omega arith), (omega arith, omega arith))
shape false false false c (suc (suc (suc (suc j)))) p q s h l = absurd (omega arith)

tail_of : (c j : ℕ) → scalar c ≡ true → 0 < j → j < length (encode c) → Goes (encode c) j × Leads (encode c)
unfolding encode
tail_of c j s h l = shape (ltb c 128) (ltb c 2048) (ltb c 65536) c j refl refl (below c s) h l

head : (x y z : Bool) (c : ℕ) → ltb c 128 ≡ x → Goes (form x y z c) 0 → ⊥
head true y z c p g = omega (arith, ltb-true c 128 p, g.0)
head false true z c p g = omega (arith, g.1)
head false false true c p g = omega (arith, g.1)
head false false false c p g = omega (arith, g.1)

head_of : (c : ℕ) → Goes (encode c) 0 → ⊥
unfolding encode
head_of c g = head (ltb c 128) (ltb c 2048) (ltb c 65536) c refl g

-- the lead before a byte that goes on, with nothing but such bytes between
pub record Led (bs : List ℕ) (p : ℕ) : Type 0 where
  pub lead : ℕ
  pub before : lead < p
  pub low : 192 ≤ get_or bs lead 0
  pub high : get_or bs lead 0 ≤ 247
  pub between : (k : ℕ) → lead < k → k ≤ p → Goes bs k

led_here : (c : ℕ) (r : List ℕ) (p : ℕ) → scalar c ≡ true → p < length (encode c) → Goes (encode c ++ r) p → Led (encode c ++ r) p
led_here c r zero s h g = absurd (head_of c (let e = get_or_append_left (encode c) r 0 0 h in (omega (arith, g.0), omega (arith, g.1))))
led_here c r (suc p) s h g =
    let t = tail_of c (suc p) s (omega arith) h in
    let e0 = get_or_append_left (encode c) r 0 0 (omega arith) in
    record {
      lead = 0;
      before = omega arith;
      low = omega (arith, t.1.0);
      high = omega (arith, t.1.1);
      between = λ k a b. let e = get_or_append_left (encode c) r 0 k (omega arith) in let u = tail_of c k s a (omega arith) in (omega (arith, u.0.0), omega (arith, u.0.1));
    }

shifted : (xs ys : List ℕ) (k : ℕ) → get_or (xs ++ ys) (length xs + k) 0 ≡ get_or ys k 0
shifted xs ys k = get_or-append_right xs ys (length xs) (length xs + k) 0 refl (omega arith) ∙ ap (λ (n : ℕ). get_or ys n 0) (omega arith)

led_later : (xs ys : List ℕ) (p : ℕ) → Led ys p → Led (xs ++ ys) (length xs + p)
led_later xs ys p d =
    let e = shifted xs ys d.lead in
    record {
      lead = length xs + d.lead;
      before = omega (arith, d.before);
      low = omega (arith, d.low);
      high = omega (arith, d.high);
      between = λ k a b.
          let g = d.between (k - length xs) (omega arith) (omega arith) in
          let f = get_or-append_right xs ys (length xs) k 0 refl (omega arith) in
          (omega (arith, g.0), omega (arith, g.1));
    }

led : (cs : List ℕ) (p : ℕ) → scalars cs ≡ true → p < length (encodes cs) → Goes (encodes cs) p → Led (encodes cs) p
led [] p s h g = absurd (not-suc-le-zero h)
led (c ∷ cs) p s h g =
    let sc = and_parts (scalar c) (scalars cs) s in
    ⊎_elim (λ l. led_here c (encodes cs) p sc.0 l g)
    (λ l.
    let n : length (encode c) + (p - length (encode c)) ≡ p = omega arith in
    let f = get_or-append_right (encode c) (encodes cs) (length (encode c)) p 0 refl l in
    let w : p - length (encode c) < length (encodes cs) = omega (arith, length-append (encode c) (encodes cs)) in
    subst (λ (m : ℕ). Led (encode c ++ encodes cs) m) n
    (led_later (encode c) (encodes cs) (p - length (encode c)) (led cs (p - length (encode c)) sc.1 w (omega (arith, g.0), omega (arith, g.1)))))
    (cases_lt p (length (encode c)))

-- a byte that goes on is no boundary, so the byte at the first stop does not go on
not_inside : (stops : ℕ → Bool) (bs : List ℕ) (from place : ℕ) → Safe stops → IsUtf8 bs → IsCharBoundary bs from → from ≤ place → place < length bs → stops (get_or bs place 0) ≡ true → Free stops bs from place → Goes bs place → ⊥
not_inside stops bs from place (inr none) u b a w t f g = both_ways (stops (get_or bs place 0)) (none (get_or bs place 0) g.0 (omega (arith, g.1))) t
not_inside stops bs from place (inl all) (cs, (s, e)) b a w t f g =
    let P : List ℕ → Type 0 = λ ys. place < length ys → Goes ys place → Led ys place in
    let d = subst P e (led cs place s) w g in
    ⊎_elim (λ l. let k = d.between from l a in omega (arith, b.1, k.0, k.1))
    (λ l. both_ways (stops (get_or bs d.lead 0)) (f d.lead l d.before) (all (get_or bs d.lead 0) d.low d.high))
    (cases_lt d.lead from)

pub stop_boundary : (stops : ℕ → Bool) (bs : List ℕ) (from place byte : ℕ) → Safe stops → IsUtf8 bs → IsCharBoundary bs from → StopAt stops bs from place byte → IsCharBoundary bs place
stop_boundary stops bs from place byte law u b s =
    let t : stops (get_or bs place 0) ≡ true = ap stops (sym s.read) ∙ s.stop in (
      omega (arith, s.within),
      λ l h. ⊎_elim (λ k. absurd (not_inside stops bs from place law u b s.behind s.within t s.first (h, k))) (λ k. k) (cases_lt (get_or bs place 0) 192),
    )

pub first_boundary : (stops : ℕ → Bool) (bs : List ℕ) (from : ℕ) (r : Option (ℕ × ℕ)) → Safe stops → FirstStop stops bs from r → IsUtf8 bs → IsCharBoundary bs from → IfSome r (λ p. IsCharBoundary bs p.0)
first_boundary stops bs from None law f u b = tt
first_boundary stops bs from (Some p) law f u b = stop_boundary stops bs from p.0 p.1 law u b f
