-- The units of bytes, one byte after another. Assumes nothing.
use Rattle.std.proofs.Common.{◌≡◌, ℕ, zero, suc, ◌+◌, ◌-◌, ◌*◌, ◌/◌, ◌%◌, ◌<◌, ◌≤◌, Bool, true, false, cond, ltb, List, [], ◌∷◌, ◌++◌, length, get_or, take, drop, Some, None, Ok, Err, Option, refl, sym, ap, ◌∙◌, ⊎_elim, arith}
use Rattle.std.specs.List.{cons_option, slice_get, sum_by}
use Rattle.std.proofs.lemmas.List.{length-append, take_all}
use Rattle.std.proofs.lemmas.List.Sums.{sum_by-cons}
use Rattle.std.proofs.lemmas.Option.{slice_get-get_or, slice_get_past}
use Rattle.std.proofs.lemmas.Bool.{cases_lt, lt-ltb, le-ltb, ltb-true, cond-true, cond-false, true≢false}
use Rattle.store.specs.Held.{unit_told}
use Rattle.coding.specs.Codes.{two, three, four, starts, units}
use Rattle.coding.specs.Read.{begins}

-- at most two units begin at a byte
starts_few : (a : ℕ) (bs : List ℕ) → length (starts a bs) ≤ 2
starts_few a bs = go (ltb a 128) (ltb a 192) (ltb a 224) (ltb a 240)
  where
    go : (p q r s : Bool) → length (cond p (a ∷ []) (cond q [] (cond r (two a (get_or bs 0 0) ∷ []) (cond s (three a (get_or bs 0 0) (get_or bs 1 0) ∷ []) ((55232 + four a (get_or bs 0 0) (get_or bs 1 0) (get_or bs 2 0) / 1024) ∷ (56320 + four a (get_or bs 0 0) (get_or bs 1 0) (get_or bs 2 0) % 1024) ∷ []))))) ≤ 2
    go true q r s = omega arith
    go false true r s = omega arith
    go false false true s = omega arith
    go false false false true = omega arith
    go false false false false = omega arith

pub units_few : (bs : List ℕ) → length (units bs) ≤ 2 * length bs
units_few [] = omega arith
units_few (b ∷ bs) = let a = length-append (starts b bs) (units bs) in let c = starts_few b bs in let d = units_few bs in omega arith

cons_append : (o : Option ℕ) (us : List ℕ) → cons_option o [] ++ us ≡ cons_option o us
cons_append None us = refl
cons_append (Some u) us = refl

-- the first unit, and the second half behind it where it begins a pair
pub first_unit : (bs : List ℕ) (u : ℕ) (second : Option ℕ) → 1 ≤ length bs → u ∷ cons_option second [] ≡ starts (get_or bs 0 0) (take (length bs - 1) (drop 1 bs)) → units bs ≡ u ∷ cons_option second (units (take (length bs - 1) (drop 1 bs)))
first_unit [] u second h e = absurd (omega arith)
first_unit (b ∷ bs) u second h e =
    let whole : take (length (b ∷ bs) - 1) bs ≡ bs = take_all (length (b ∷ bs) - 1) bs (omega arith) in
    ap (λ t. t ++ units bs) (sym (e ∙ ap (starts b) whole)) ∙ ap (λ t. u ∷ t) (cons_append second (units bs)) ∙ ap (λ t. u ∷ cons_option second (units t)) (sym whole)

pub first_plain : (bs : List ℕ) → 1 ≤ length bs → get_or bs 0 0 < 128 → units bs ≡ get_or bs 0 0 ∷ units (take (length bs - 1) (drop 1 bs))
first_plain [] h k = absurd (omega arith)
first_plain (b ∷ bs) h k =
    let whole : take (length (b ∷ bs) - 1) bs ≡ bs = take_all (length (b ∷ bs) - 1) bs (omega arith) in
    ap (λ t. t ++ units bs) (cond-true _ _ _ (lt-ltb b 128 k)) ∙ ap (λ t. b ∷ units t) (sym whole)

pub no_units : (bs : List ℕ) → length bs < 1 → units bs ≡ []
no_units [] h = refl
no_units (b ∷ bs) h = absurd (omega arith)

-- so many units begin at a byte
pub begins_is : (a : ℕ) (bs : List ℕ) → begins a ≡ length (starts a bs)
begins_is a bs = go (ltb a 128) (ltb a 192) (ltb a 224) (ltb a 240) (λ e. lt-ltb a 240 (let h = ltb-true a 224 e in omega arith))
  where
    go : (p q r s : Bool) → (r ≡ true → s ≡ true)
        → cond p 1 (cond q 0 (cond s 1 2)) ≡ length (cond p (a ∷ []) (cond q [] (cond r (two a (get_or bs 0 0) ∷ []) (cond s (three a (get_or bs 0 0) (get_or bs 1 0) ∷ []) ((55232 + four a (get_or bs 0 0) (get_or bs 1 0) (get_or bs 2 0) / 1024) ∷ (56320 + four a (get_or bs 0 0) (get_or bs 1 0) (get_or bs 2 0) % 1024) ∷ [])))))
    go true q r s h = refl
    go false true r s h = refl
    go false false true true h = refl
    go false false true false h = absurd (true≢false (sym (h refl)))
    go false false false true h = refl
    go false false false false h = refl

pub units_counted : (bs : List ℕ) → sum_by begins bs ≡ length (units bs)
units_counted [] = refl
units_counted (b ∷ bs) = sum_by-cons begins b bs ∙ (λ j. begins_is b bs j + units_counted bs j) ∙ sym (length-append (starts b bs) (units bs))

-- what is told of a unit that was looked for
pub some_told : (v : List ℕ) (i u : ℕ) → Some u ≡ slice_get v i → Ok u ≡ unit_told v i
some_told v i u h = ⊎_elim
    (λ lt. let k : u ≡ get_or v i 0 = (let g = slice_get-get_or v i 0 lt in cc) in ap Ok k ∙ sym (cond-true _ _ _ (lt-ltb i (length v) lt)))
    (λ ge. absurd (let z : ◌≡◌ {A = ℕ} 0 1 = (let g = slice_get_past v i ge in cc) in omega arith))
    (cases_lt i (length v))

pub none_told : (v : List ℕ) (i : ℕ) → None ≡ slice_get v i → Err 5 ≡ unit_told v i
none_told v i h = ⊎_elim
    (λ lt. absurd (let z : ◌≡◌ {A = ℕ} 0 1 = (let g = slice_get-get_or v i 0 lt in cc) in omega arith))
    (λ ge. sym (cond-false _ _ _ (le-ltb i (length v) ge)))
    (cases_lt i (length v))

told_as : (v w : List ℕ) (i j : ℕ) → slice_get v i ≡ slice_get w j → unit_told v i ≡ unit_told w j
told_as v w i j e = go (slice_get v i) refl
  where
    go : (o : Option ℕ) → slice_get v i ≡ o → unit_told v i ≡ unit_told w j
    go (Some u) h = sym (some_told v i u (sym h)) ∙ some_told w j u (sym h ∙ e)
    go None h = sym (none_told v i (sym h)) ∙ none_told w j (sym h ∙ e)

-- a unit behind those that are passed
behind : (us vs : List ℕ) (n : ℕ) → length us ≤ n → slice_get (us ++ vs) n ≡ slice_get vs (n - length us)
behind [] vs n h = let e : n - 0 ≡ n = omega arith in ap (slice_get vs) (sym e)
behind (u ∷ us) vs zero h = absurd (omega arith)
behind (u ∷ us) vs (suc n) h = let e : suc n - suc (length us) ≡ n - length us = omega arith in behind us vs n (omega arith) ∙ ap (slice_get vs) (sym e)

pub told_on : (bs : List ℕ) (n many : ℕ) → 1 ≤ length bs → many ≡ begins (get_or bs 0 0) → many ≤ n → unit_told (units (take (length bs - 1) (drop 1 bs))) (n - many) ≡ unit_told (units bs) n
told_on [] n many h e k = absurd (omega arith)
told_on (b ∷ bs) n many h e k =
    let whole : take (length (b ∷ bs) - 1) bs ≡ bs = take_all (length (b ∷ bs) - 1) bs (omega arith) in
    let f : many ≡ length (starts b bs) = e ∙ begins_is b bs in
    (λ j. unit_told (units (whole j)) (n - f j)) ∙ told_as (units bs) (units (b ∷ bs)) (n - length (starts b bs)) n (sym (behind (starts b bs) (units bs) n (omega (arith, f, k))))
