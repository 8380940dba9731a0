-- 16-bit units, in parts and in appended lists. Assumes nothing.
use Rattle.std.proofs.Common.{◌≡◌, ℕ, zero, suc, ◌-◌, ◌<◌, Bool, true, false, cond, ltb, List, [], ◌∷◌, ◌++◌, get_or, take, drop, refl, ap, ◌∙◌}
use Rattle.std.proofs.lemmas.Bool.{ltb-true, lt-ltb, and_parts, and_from}
use Rattle.store.specs.Held.{Narrow, AllNarrow}
use Rattle.store.specs.Cuts.{cut, narrow}

pub narrow_append : (us vs : List ℕ) → Narrow us → Narrow vs → Narrow (us ++ vs)
narrow_append [] vs n m = m
narrow_append (u ∷ us) vs n m = (n.0, narrow_append us vs n.1 m)

pub narrow_take : (n : ℕ) (us : List ℕ) → Narrow us → Narrow (take n us)
narrow_take zero us h = tt
narrow_take (suc n) [] h = tt
narrow_take (suc n) (u ∷ us) h = (h.0, narrow_take n us h.1)

pub narrow_drop : (n : ℕ) (us : List ℕ) → Narrow us → Narrow (drop n us)
narrow_drop zero us h = h
narrow_drop (suc n) [] h = tt
narrow_drop (suc n) (u ∷ us) h = narrow_drop n us h.1

-- from a fact on every cell
pub narrow_all : (us : List ℕ) → ((i : ℕ) → get_or us i 0 < 65536) → Narrow us
narrow_all [] h = tt
narrow_all (u ∷ us) h = (h 0, narrow_all us (λ i. h (suc i)))

-- the test, and what it says
pub narrow_is : (us : List ℕ) → narrow us ≡ true → Narrow us
narrow_is [] e = tt
narrow_is (u ∷ us) e = let p = and_parts (ltb u 65536) (narrow us) e in (ltb-true u 65536 p.0, narrow_is us p.1)

pub narrow_so : (us : List ℕ) → Narrow us → narrow us ≡ true
narrow_so [] n = refl
narrow_so (u ∷ us) n = and_from (ltb u 65536) (narrow us) (lt-ltb u 65536 n.0) (narrow_so us n.1)

-- cells are units, so the parts of them are
pub narrow_cut : (m : List ℕ) → Narrow m → (s : ℕ) (es : List ℕ) → AllNarrow (cut m s es)
narrow_cut m n s [] = tt
narrow_cut m n s (e ∷ es) = (narrow_take (e - s) (drop s m) (narrow_drop s m n), narrow_cut m n e es)

-- one unit more where there is room, and fewer
pub narrow_more : (us us' : List ℕ) (u : ℕ) (b : Bool) → u < 65536 → narrow us ≡ true → us' ≡ cond b (us ++ (u ∷ [])) us → narrow us' ≡ true
narrow_more us us' u true h n e = ap narrow e ∙ narrow_so (us ++ (u ∷ [])) (narrow_append us (u ∷ []) (narrow_is us n) (h, tt))
narrow_more us us' u false h n e = ap narrow e ∙ n

pub narrow_less : (n : ℕ) (us : List ℕ) → narrow us ≡ true → narrow (take n us) ≡ true
narrow_less n us e = narrow_so (take n us) (narrow_take n us (narrow_is us e))
