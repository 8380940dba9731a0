-- Units to bytes and back, and one unit more. Assumes nothing.
use Rattle.std.proofs.Common.{◌≡◌, ℕ, ◌+◌, ◌*◌, ◌/◌, ◌%◌, ◌<◌, ◌≤◌, Bool, true, false, cond, ◌&&◌, ltb, leb, List, [], ◌∷◌, ◌++◌, length, get_or, sym, refl, ap, ◌∙◌, subst, Some, None, Option, ⊎_elim, arith}
use lib.Utf8.{encode, encodes, next}
use Rattle.std.specs.Char.{len_utf8}
use Rattle.std.proofs.lemmas.List.{length-append, append_assoc, append-nil}
use Rattle.std.proofs.lemmas.Str.{encodes-append, length-encode}
use Rattle.std.proofs.lemmas.Bool.{leb-true, ltb-true, lt-ltb, le-ltb, lt-leb, and_parts, and_from, and_left, and_right, cond-true, cond-false, cases_lt, cases_Bool, true≢false}
use Rattle.store.specs.Held.{Narrow}
use Rattle.store.proofs.Narrows.{narrow_append}
use Rattle.coding.specs.Codes.{high, low, join, points, wtf8, weight, two, three, four, starts, units, trail, pairs}

pub high_range : (u : ℕ) → high u ≡ true → (55296 ≤ u) × (u < 56320)
high_range u e = let p = and_parts (leb 55296 u) (ltb u 56320) e in (leb-true 55296 u p.0, ltb-true u 56320 p.1)

pub low_range : (u : ℕ) → low u ≡ true → (56320 ≤ u) × (u < 57344)
low_range u e = let p = and_parts (leb 56320 u) (ltb u 57344) e in (leb-true 56320 u p.0, ltb-true u 57344 p.1)

-- what UTF-8 writes, by size
pub encode_1 : (c : ℕ) → c < 128 → encode c ≡ c ∷ []
unfolding encode
encode_1 c h = cond-true _ _ _ (lt-ltb c 128 h)

pub encode_2 : (c : ℕ) → 128 ≤ c → c < 2048 → encode c ≡ (192 + c / 64) ∷ next c ∷ []
unfolding encode
encode_2 c h k = cond-false _ _ _ (le-ltb c 128 h) ∙ cond-true _ _ _ (lt-ltb c 2048 k)

pub encode_3 : (c : ℕ) → 2048 ≤ c → c < 65536 → encode c ≡ (224 + c / 4096) ∷ next (c / 64) ∷ next c ∷ []
unfolding encode
encode_3 c h k = cond-false _ _ _ (le-ltb c 128 (omega arith)) ∙ cond-false _ _ _ (le-ltb c 2048 h) ∙ cond-true _ _ _ (lt-ltb c 65536 k)

pub encode_4 : (c : ℕ) → 65536 ≤ c → encode c ≡ (240 + c / 262144) ∷ next (c / 4096) ∷ next (c / 64) ∷ next c ∷ []
unfolding encode
encode_4 c h = cond-false _ _ _ (le-ltb c 128 (omega arith)) ∙ cond-false _ _ _ (le-ltb c 2048 (omega arith)) ∙ cond-false _ _ _ (le-ltb c 65536 h)

-- what begins at a byte
pub starts_0 : (a : ℕ) (bs : List ℕ) → 128 ≤ a → a < 192 → starts a bs ≡ []
starts_0 a bs h k = cond-false _ _ _ (le-ltb a 128 h) ∙ cond-true _ _ _ (lt-ltb a 192 k)

starts_1 : (a : ℕ) (bs : List ℕ) → a < 128 → starts a bs ≡ a ∷ []
starts_1 a bs h = cond-true _ _ _ (lt-ltb a 128 h)

pub starts_2 : (a : ℕ) (bs : List ℕ) → 192 ≤ a → a < 224 → starts a bs ≡ two a (get_or bs 0 0) ∷ []
starts_2 a bs h k = cond-false _ _ _ (le-ltb a 128 (omega arith)) ∙ cond-false _ _ _ (le-ltb a 192 h) ∙ cond-true _ _ _ (lt-ltb a 224 k)

pub starts_3 : (a : ℕ) (bs : List ℕ) → 224 ≤ a → a < 240 → starts a bs ≡ three a (get_or bs 0 0) (get_or bs 1 0) ∷ []
starts_3 a bs h k = cond-false _ _ _ (le-ltb a 128 (omega arith)) ∙ cond-false _ _ _ (le-ltb a 192 (omega arith)) ∙ cond-false _ _ _ (le-ltb a 224 h) ∙ cond-true _ _ _ (lt-ltb a 240 k)

pub starts_4 : (a : ℕ) (bs : List ℕ) → 240 ≤ a → starts a bs ≡ (55232 + four a (get_or bs 0 0) (get_or bs 1 0) (get_or bs 2 0) / 1024) ∷ (56320 + four a (get_or bs 0 0) (get_or bs 1 0) (get_or bs 2 0) % 1024) ∷ []
starts_4 a bs h = cond-false _ _ _ (le-ltb a 128 (omega arith)) ∙ cond-false _ _ _ (le-ltb a 192 (omega arith)) ∙ cond-false _ _ _ (le-ltb a 224 (omega arith)) ∙ cond-false _ _ _ (le-ltb a 240 h)

goes_on : (c : ℕ) (bs : List ℕ) → units (next c ∷ bs) ≡ units bs
goes_on c bs = ap (λ t. t ++ units bs) (starts_0 (next c) bs (omega arith) (omega arith))

-- the way back, for a unit and for a pair
pub units_one : (u : ℕ) (bs : List ℕ) → u < 65536 → units (encode u ++ bs) ≡ u ∷ units bs
units_one u bs h = ⊎_elim one (λ a. ⊎_elim (more a) most (cases_lt u 2048)) (cases_lt u 128)
  where
    one : u < 128 → units (encode u ++ bs) ≡ u ∷ units bs
    one k = ap (λ t. units (t ++ bs)) (encode_1 u k) ∙ ap (λ t. t ++ units bs) (starts_1 u bs k)

    more : 128 ≤ u → u < 2048 → units (encode u ++ bs) ≡ u ∷ units bs
    more a k =
        let e : two (192 + u / 64) (next u) ≡ u = omega arith in
        ap (λ t. units (t ++ bs)) (encode_2 u a k) ∙ ap (λ t. t ++ units (next u ∷ bs)) (starts_2 (192 + u / 64) (next u ∷ bs) (omega arith) (omega arith)) ∙ (λ j. e j ∷ goes_on u bs j)

    most : 2048 ≤ u → units (encode u ++ bs) ≡ u ∷ units bs
    most a =
        let e : three (224 + u / 4096) (next (u / 64)) (next u) ≡ u = omega arith in
        ap (λ t. units (t ++ bs)) (encode_3 u a h) ∙ ap (λ t. t ++ units (next (u / 64) ∷ next u ∷ bs)) (starts_3 (224 + u / 4096) (next (u / 64) ∷ next u ∷ bs) (omega arith) (omega arith)) ∙ (λ j. e j ∷ (goes_on (u / 64) (next u ∷ bs) ∙ goes_on u bs) j)

low_bits : (c : ℕ) → next c % 64 ≡ c % 64
low_bits c = omega arith

back_4 : (c : ℕ) → c < 1114112 → four (240 + c / 262144) (next (c / 4096)) (next (c / 64)) (next c) ≡ c
back_4 c h =
    let a : c / 64 / 64 ≡ c / 4096 = omega arith in
    let b : c / 4096 / 64 ≡ c / 262144 = omega arith in
    let d : (240 + c / 262144) % 8 ≡ c / 262144 = omega arith in
    let e : c / 262144 * 64 + c / 4096 % 64 ≡ c / 4096 = omega arith in
    let f : c / 4096 * 64 + c / 64 % 64 ≡ c / 64 = omega arith in
    let g : c / 64 * 64 + c % 64 ≡ c = omega arith in
    (λ j. d j * 262144 + low_bits (c / 4096) j * 4096 + low_bits (c / 64) j * 64 + low_bits c j) ∙ omega arith

pub units_pair : (h l : ℕ) (bs : List ℕ) → high h ≡ true → low l ≡ true → units (encode (join h l) ++ bs) ≡ h ∷ l ∷ units bs
units_pair h l bs p q =
    let rh = high_range h p in
    let rl = low_range l q in
    let c : ℕ = join h l in
    let f : four (240 + c / 262144) (next (c / 4096)) (next (c / 64)) (next c) ≡ c = back_4 c (omega (arith, rh.0, rh.1, rl.0, rl.1)) in
    let eh : 55232 + c / 1024 ≡ h = omega (arith, rh.0, rh.1, rl.0, rl.1) in
    let el : 56320 + c % 1024 ≡ l = omega (arith, rh.0, rh.1, rl.0, rl.1) in
    ap (λ t. units (t ++ bs)) (encode_4 c (omega arith)) ∙ ap (λ t. t ++ units (next (c / 4096) ∷ next (c / 64) ∷ next c ∷ bs)) (starts_4 (240 + c / 262144) (next (c / 4096) ∷ next (c / 64) ∷ next c ∷ bs) (omega arith))
    ∙ (λ j. (55232 + f j / 1024) ∷ (56320 + f j % 1024) ∷ (goes_on (c / 4096) (next (c / 64) ∷ next c ∷ bs) ∙ goes_on (c / 64) (next c ∷ bs) ∙ goes_on c bs) j)
    ∙ (λ j. eh j ∷ el j ∷ units bs)

pub units_wtf8 : (us : List ℕ) → Narrow us → units (wtf8 us) ≡ us
units_wtf8 [] n = refl
units_wtf8 (u ∷ []) n = units_one u [] n.0
units_wtf8 (u ∷ (v ∷ us)) n = go (high u && low v) refl (units_wtf8 us n.1.1) (units_wtf8 (v ∷ us) n.1)
  where
    go : (b : Bool) → (high u && low v) ≡ b → units (wtf8 us) ≡ us → units (wtf8 (v ∷ us)) ≡ v ∷ us → units (encodes (cond b (join u v ∷ points us) (u ∷ points (v ∷ us)))) ≡ u ∷ v ∷ us
    go true e i k = let p = and_parts (high u) (low v) e in units_pair u v (wtf8 us) p.0 p.1 ∙ ap (λ t. u ∷ v ∷ t) i
    go false e i k = units_one u (wtf8 (v ∷ us)) n.0 ∙ ap (λ t. u ∷ t) k

narrow_starts : (a : ℕ) (bs : List ℕ) → Narrow (starts a bs)
narrow_starts a bs = go (ltb a 128) (ltb a 192) (ltb a 224) (ltb a 240) refl
  where
    go : (p q r s : Bool) → ltb a 128 ≡ p → Narrow (cond p (a ∷ []) (cond q [] (cond r (two a (get_or bs 0 0) ∷ []) (cond s (three a (get_or bs 0 0) (get_or bs 1 0) ∷ []) ((55232 + four a (get_or bs 0 0) (get_or bs 1 0) (get_or bs 2 0) / 1024) ∷ (56320 + four a (get_or bs 0 0) (get_or bs 1 0) (get_or bs 2 0) % 1024) ∷ [])))))
    go true q r s e = (let k = ltb-true a 128 e in omega arith, tt)
    go false true r s e = tt
    go false false true s e = (omega arith, tt)
    go false false false true e = (omega arith, tt)
    go false false false false e = (omega arith, (omega arith, tt))

pub narrow_units : (bs : List ℕ) → Narrow (units bs)
narrow_units [] = tt
narrow_units (b ∷ bs) = narrow_append (starts b bs) (units bs) (narrow_starts b bs) (narrow_units bs)

-- all but the last unit
abbrev pub front : List ℕ → List ℕ
front [] = []
front (u ∷ []) = []
front (u ∷ (v ∷ us)) = u ∷ front (v ∷ us)

pub narrow_front : (us : List ℕ) → Narrow us → Narrow (front us)
narrow_front [] n = tt
narrow_front (u ∷ []) n = tt
narrow_front (u ∷ (v ∷ us)) n = (n.0, narrow_front (v ∷ us) n.1)

-- one unit more
pub points_more : (us : List ℕ) (u : ℕ) → pairs (trail us) u ≡ false → points (us ++ (u ∷ [])) ≡ points us ++ (u ∷ [])
points_more [] u h = refl
points_more (x ∷ []) u h = go (high x) refl
  where
    go : (b : Bool) → high x ≡ b → cond (high x && low u) (join x u ∷ []) (x ∷ u ∷ []) ≡ x ∷ u ∷ []
    go true e = cond-false _ _ _ (subst (λ t. pairs t u ≡ false) (cond-true (high x) (Some x) None e) h)
    go false e = cond-false _ _ _ (and_left (high x) (low u) e)
points_more (x ∷ (y ∷ us)) u h = go (high x && low y) refl (points_more (y ∷ us) u h) (inner us h (λ k. points_more us u k))
  where
    inner : (vs : List ℕ) → pairs (trail (y ∷ vs)) u ≡ false → (pairs (trail vs) u ≡ false → points (vs ++ (u ∷ [])) ≡ points vs ++ (u ∷ [])) → points (vs ++ (u ∷ [])) ≡ points vs ++ (u ∷ [])
    inner [] k f = refl
    inner (v ∷ vs) k f = f k

    go : (b : Bool) → (high x && low y) ≡ b → points (y ∷ (us ++ (u ∷ []))) ≡ points (y ∷ us) ++ (u ∷ []) → points (us ++ (u ∷ [])) ≡ points us ++ (u ∷ [])
        → cond b (join x y ∷ points (us ++ (u ∷ []))) (x ∷ points (y ∷ (us ++ (u ∷ [])))) ≡ cond b (join x y ∷ points us) (x ∷ points (y ∷ us)) ++ (u ∷ [])
    go true e i k = ap (λ t. join x y ∷ t) k
    go false e i k = ap (λ t. x ∷ t) i

pub low_not : (h : ℕ) → high h ≡ true → low h ≡ false
low_not h e = let r = high_range h e in and_left (leb 56320 h) (ltb h 57344) (lt-leb 56320 h r.1)

pub points_join : (us : List ℕ) (h l : ℕ) → high h ≡ true → low l ≡ true → points (us ++ (h ∷ l ∷ [])) ≡ points us ++ (join h l ∷ [])
points_join [] h l p q = cond-true _ _ _ (and_from (high h) (low l) p q)
points_join (x ∷ []) h l p q = cond-false _ _ _ (and_right (high x) (low h) (low_not h p)) ∙ ap (λ t. x ∷ t) (cond-true _ _ _ (and_from (high h) (low l) p q))
points_join (x ∷ (y ∷ us)) h l p q = go (high x && low y) (points_join (y ∷ us) h l p q) (points_join us h l p q)
  where
    go : (b : Bool) → points (y ∷ (us ++ (h ∷ l ∷ []))) ≡ points (y ∷ us) ++ (join h l ∷ []) → points (us ++ (h ∷ l ∷ [])) ≡ points us ++ (join h l ∷ [])
        → cond b (join x y ∷ points (us ++ (h ∷ l ∷ []))) (x ∷ points (y ∷ (us ++ (h ∷ l ∷ [])))) ≡ cond b (join x y ∷ points us) (x ∷ points (y ∷ us)) ++ (join h l ∷ [])
    go true i k = ap (λ t. join x y ∷ t) k
    go false i k = ap (λ t. x ∷ t) i

-- a high half at the end
pub trail_high : (us : List ℕ) (h : ℕ) → trail us ≡ Some h → high h ≡ true
trail_high [] h e = cc
trail_high (u ∷ []) h e = go (high u) refl
  where
    go : (b : Bool) → high u ≡ b → high h ≡ true
    go true k = let f : Some u ≡ Some h = sym (cond-true (high u) (Some u) None k) ∙ e in let g : u ≡ h = cc in ap high (sym g) ∙ k
    go false k = let f : None ≡ Some h = sym (cond-false (high u) (Some u) None k) ∙ e in cc
trail_high (u ∷ (v ∷ us)) h e = trail_high (v ∷ us) h e

pub front_trail : (us : List ℕ) (h : ℕ) → trail us ≡ Some h → us ≡ front us ++ (h ∷ [])
front_trail [] h e = cc
front_trail (u ∷ []) h e = go (high u) refl
  where
    go : (b : Bool) → high u ≡ b → u ∷ [] ≡ h ∷ []
    go true k = let f : Some u ≡ Some h = sym (cond-true (high u) (Some u) None k) ∙ e in cc
    go false k = let f : None ≡ Some h = sym (cond-false (high u) (Some u) None k) ∙ e in cc
front_trail (u ∷ (v ∷ us)) h e = ap (λ t. u ∷ t) (front_trail (v ∷ us) h e)

pub trail_more : (us : List ℕ) (u : ℕ) → trail (us ++ (u ∷ [])) ≡ cond (high u) (Some u) None
trail_more [] u = refl
trail_more (x ∷ []) u = refl
trail_more (x ∷ (y ∷ us)) u = trail_more (y ∷ us) u

pub pairs_low : (half : Option ℕ) (u : ℕ) → low u ≡ false → pairs half u ≡ false
pairs_low None u e = refl
pairs_low (Some h) u e = and_right (high h) (low u) e

-- the bytes of one unit more
pub wtf8_more : (us : List ℕ) (u : ℕ) → pairs (trail us) u ≡ false → wtf8 (us ++ (u ∷ [])) ≡ wtf8 us ++ encode u
wtf8_more us u h = ap encodes (points_more us u h) ∙ encodes-append (points us) (u ∷ []) ∙ ap (λ t. wtf8 us ++ t) (append-nil (encode u))

pub wtf8_high : (us : List ℕ) (h : ℕ) → trail us ≡ Some h → wtf8 us ≡ wtf8 (front us) ++ encode h
wtf8_high us h e = ap wtf8 (front_trail us h e) ∙ wtf8_more (front us) h (pairs_low (trail (front us)) h (low_not h (trail_high us h e)))

pub wtf8_join : (us : List ℕ) (h l : ℕ) → trail us ≡ Some h → low l ≡ true → wtf8 (us ++ (l ∷ [])) ≡ wtf8 (front us) ++ encode (join h l)
wtf8_join us h l e k =
    ap (λ t. wtf8 (t ++ (l ∷ []))) (front_trail us h e)
    ∙ ap wtf8 (append_assoc (front us) (h ∷ []) (l ∷ []))
    ∙ ap encodes (points_join (front us) h l (trail_high us h e) k)
    ∙ encodes-append (points (front us)) (join h l ∷ [])
    ∙ ap (λ t. wtf8 (front us) ++ t) (append-nil (encode (join h l)))

width_least : (c : ℕ) → 1 ≤ len_utf8 c
width_least c = go (ltb c 128) (ltb c 2048) (ltb c 65536)
  where
    go : (p q r : Bool) → 1 ≤ cond p 1 (cond q 2 (cond r 3 4))
    go true q r = omega arith
    go false true r = omega arith
    go false false true = omega arith
    go false false false = omega arith

width_most : (c : ℕ) → c < 65536 → len_utf8 c ≤ 3
width_most c h = go (ltb c 128) (ltb c 2048) (ltb c 65536) (lt-ltb c 65536 h)
  where
    go : (p q r : Bool) → r ≡ true → cond p 1 (cond q 2 (cond r 3 4)) ≤ 3
    go true q r e = omega arith
    go false true r e = omega arith
    go false false true e = omega arith
    go false false false e = absurd (true≢false (sym e))

pub size_most : (c : ℕ) → length (encode c) ≤ 4
size_most c = subst (λ n. n ≤ 4) (sym (length-encode c)) (go (ltb c 128) (ltb c 2048) (ltb c 65536))
  where
    go : (p q r : Bool) → cond p 1 (cond q 2 (cond r 3 4)) ≤ 4
    go true q r = omega arith
    go false true r = omega arith
    go false false true = omega arith
    go false false false = omega arith

pub three_bytes : (h : ℕ) → high h ≡ true → length (encode h) ≡ 3
three_bytes h e = let r = high_range h e in ap length (encode_3 h (omega (arith, r.0)) (omega (arith, r.1)))

pub four_bytes : (h l : ℕ) → length (encode (join h l)) ≡ 4
four_bytes h l = ap length (encode_4 (join h l) (omega arith))

-- the law of the weight: a low half that completes a pair adds one byte, any other unit its own
pub weight_more : (us : List ℕ) (u : ℕ) → pairs (trail us) u ≡ false → weight (us ++ (u ∷ [])) ≡ weight us + length (encode u)
weight_more us u h = ap length (wtf8_more us u h) ∙ length-append (wtf8 us) (encode u)

pub weight_join : (us : List ℕ) (h l : ℕ) → trail us ≡ Some h → low l ≡ true → weight (us ++ (l ∷ [])) ≡ weight us + 1
weight_join us h l e k =
    let a = ap length (wtf8_join us h l e k) ∙ length-append (wtf8 (front us)) (encode (join h l)) in
    let b = ap length (wtf8_high us h e) ∙ length-append (wtf8 (front us)) (encode h) in
    let c = three_bytes h (trail_high us h e) in
    let d = four_bytes h l in
    omega arith

-- either a pair is completed, or the unit stands for itself
pub either : (P : Type 0) (us : List ℕ) (u : ℕ) → ((h : ℕ) → trail us ≡ Some h → low u ≡ true → P) → (pairs (trail us) u ≡ false → P) → P
either P us u joined alone = go (trail us) refl
  where
    go : (o : Option ℕ) → trail us ≡ o → P
    go None e = alone (ap (λ o. pairs o u) e)
    go (Some h) e = ⊎_elim (joined h e) (λ k. alone (pairs_low (trail us) u k)) (cases_Bool (low u))

pub heavier_is : (us : List ℕ) (u : ℕ) → weight us + 1 ≤ weight (us ++ (u ∷ []))
heavier_is us u = either (weight us + 1 ≤ weight (us ++ (u ∷ []))) us u
    (λ h e k. let q = weight_join us h u e k in omega arith)
    (λ k. let q = weight_more us u k in let l = length-encode u in let w = width_least u in omega arith)

pub bounded_is : (us : List ℕ) (u : ℕ) → u < 65536 → weight (us ++ (u ∷ [])) ≤ weight us + 3
bounded_is us u b = either (weight (us ++ (u ∷ [])) ≤ weight us + 3) us u
    (λ h e k. let q = weight_join us h u e k in omega arith)
    (λ k. let q = weight_more us u k in let l = length-encode u in let w = width_most u b in omega arith)
