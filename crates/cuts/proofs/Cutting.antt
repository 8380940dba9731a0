-- Cells and the places where lists end in them: one cell more, one list more, fewer cells, and list n. Assumes nothing.
use Rattle.std.proofs.Common.{◌≡◌, ℕ, ◌+◌, ◌-◌, ◌<◌, ◌≤◌, Bool, true, false, cond, List, [], ◌∷◌, ◌++◌, length, get_or, take, drop, suc, refl, sym, ap, ◌∙◌, take-append-drop, unwrap_or, arith}
use Rattle.std.specs.List.{slice_get}
use Rattle.std.proofs.lemmas.List.{length-append, length-drop, length-take, take-append-le, drop-append-le, drop_all, take_all, take-take}
use Rattle.store.specs.Cuts.{part, cut, final, ordered}
use Rattle.store.proofs.Parts.{step, final_within, final_snoc, ordered_up, ordered_final, ordered_snoc, cut_snoc, cut_at, at_within}

module _ {T : Type 0} where
  -- a list that ends within some cells is the same in more of them, and in fewer
  part_more : (m ys : List T) (a b : ℕ) → a ≤ b → b ≤ length m → part (m ++ ys) a b ≡ part m a b
  part_more m ys a b h k = ap (take (b - a)) (drop-append-le a m ys (omega arith)) ∙ take-append-le (b - a) (drop a m) ys (let e = length-drop a m in omega arith)

  pub cut_more : (m ys : List T) (s : ℕ) (es : List ℕ) → ordered s es (length m) ≡ true → cut (m ++ ys) s es ≡ cut m s es
  cut_more m ys s [] h = refl
  cut_more m ys s (e ∷ es) h =
      let p = step s e es (length m) h in
      let q = final_within e es (length m) p.1 in
      (λ j. part_more m ys s e p.0 (omega (arith, q.0, q.1)) j ∷ cut_more m ys e es p.1 j)

  module _ (m : List T) (es : List ℕ) (up : ordered 0 es (length m) ≡ true) where
    pub start_in : final 0 es ≤ length m
    start_in = (final_within 0 es (length m) up).1

    pub open_length : final 0 es + length (drop (final 0 es) m) ≡ length m
    open_length = let e = length-drop (final 0 es) m in let l = start_in in omega arith

    -- more cells
    pub open_more : (ys : List T) → drop (final 0 es) (m ++ ys) ≡ drop (final 0 es) m ++ ys
    open_more ys = drop-append-le (final 0 es) m ys start_in

    pub rising_more : (ys : List T) → ordered 0 es (length (m ++ ys)) ≡ true
    rising_more ys = ordered_up 0 es (length m) (length (m ++ ys)) (let e = length-append m ys in omega arith) up

    -- the same where there is room, or else nothing
    module _ (m' ys : List T) where
      pub grown_rising : (b : Bool) → m' ≡ cond b (m ++ ys) m → ordered 0 es (length m') ≡ true
      grown_rising true e = ap (λ t. ordered 0 es (length t)) e ∙ rising_more ys
      grown_rising false e = ap (λ t. ordered 0 es (length t)) e ∙ up

      pub grown_lists : (b : Bool) → m' ≡ cond b (m ++ ys) m → cut m' 0 es ≡ cut m 0 es
      grown_lists true e = ap (λ t. cut t 0 es) e ∙ cut_more m ys 0 es up
      grown_lists false e = ap (λ t. cut t 0 es) e

      pub grown_open : (b : Bool) → m' ≡ cond b (m ++ ys) m → drop (final 0 es) m' ≡ cond b (drop (final 0 es) m ++ ys) (drop (final 0 es) m)
      grown_open true e = ap (drop (final 0 es)) e ∙ open_more ys
      grown_open false e = ap (drop (final 0 es)) e

    -- fewer cells, no less than those of the finished lists
    module _ (k : ℕ) (le : final 0 es ≤ k) where
      pub rising_less : ordered 0 es (length (take k m)) ≡ true
      rising_less = ordered_up 0 es (final 0 es) (length (take k m)) (let l = length-take k m in let i = start_in in omega arith) (ordered_final 0 es (length m) up)

      pub cut_less : cut (take k m) 0 es ≡ cut m 0 es
      cut_less = sym (cut_more (take k m) (drop k m) 0 es rising_less) ∙ ap (λ t. cut t 0 es) (take-append-drop k m)

    -- the open list finished
    pub cut_close : cut m 0 (es ++ (length m ∷ [])) ≡ cut m 0 es ++ (drop (final 0 es) m ∷ [])
    cut_close = cut_snoc m 0 es (length m) ∙ ap (λ t. cut m 0 es ++ (t ∷ [])) (take_all (length m - final 0 es) (drop (final 0 es) m) (let e = length-drop (final 0 es) m in omega arith))

    pub open_close : drop (final 0 (es ++ (length m ∷ []))) m ≡ []
    open_close = drop_all (final 0 (es ++ (length m ∷ []))) m (let e = final_snoc 0 es (length m) in omega arith)

    pub rising_close : ordered 0 (es ++ (length m ∷ [])) (length m) ≡ true
    rising_close = ordered_snoc 0 es (length m) up

    -- the same where there is a place, or else nothing
    module _ (es' : List ℕ) (end : ℕ) (last : end ≡ length m) where
      pub closed_rising : (b : Bool) → es' ≡ cond b (es ++ (end ∷ [])) es → ordered 0 es' (length m) ≡ true
      closed_rising true e = ap (λ t. ordered 0 t (length m)) (e ∙ ap (λ n. es ++ (n ∷ [])) last) ∙ rising_close
      closed_rising false e = ap (λ t. ordered 0 t (length m)) e ∙ up

      pub closed_lists : (b : Bool) → es' ≡ cond b (es ++ (end ∷ [])) es → cut m 0 es' ≡ cond b (cut m 0 es ++ (drop (final 0 es) m ∷ [])) (cut m 0 es)
      closed_lists true e = ap (cut m 0) (e ∙ ap (λ n. es ++ (n ∷ [])) last) ∙ cut_close
      closed_lists false e = ap (cut m 0) e

      pub closed_open : (b : Bool) → es' ≡ cond b (es ++ (end ∷ [])) es → drop (final 0 es') m ≡ cond b [] (drop (final 0 es) m)
      closed_open true e = ap (λ t. drop (final 0 t) m) (e ∙ ap (λ n. es ++ (n ∷ [])) last) ∙ open_close
      closed_open false e = ap (λ t. drop (final 0 t) m) e

    -- list n
    module _ (n : ℕ) (lt : n < length es) where
      pub list_in : (final 0 (take n es) ≤ get_or es n 0) × (get_or es n 0 ≤ length m)
      list_in = at_within 0 es (length m) n up lt

      pub list_at : part m (final 0 (take n es)) (get_or es n 0) ≡ get_or (cut m 0 es) n []
      list_at = sym (cut_at m 0 es n lt)

-- the cells in front of those that are written stay
pub front_kept : {T : Type 0} (memory memory' ys : List T) (u u' f : ℕ) → f ≤ length (take u memory) → (b : Bool) → take u' memory' ≡ cond b (take u memory ++ ys) (take u memory) → take f memory' ≡ take f memory
front_kept memory memory' ys u u' f le b e =
    let l = length-take u memory in
    let same = first b e in
    let l' = length-take u' memory' in
    sym (take-take f u' memory' (omega (arith, longer b e))) ∙ ap (take f) e ∙ same ∙ take-take f u memory (omega arith)
  where
    first : (b : Bool) → take u' memory' ≡ cond b (take u memory ++ ys) (take u memory) → take f (cond b (take u memory ++ ys) (take u memory)) ≡ take f (take u memory)
    first true e = take-append-le f (take u memory) ys le
    first false e = refl

    longer : (b : Bool) → take u' memory' ≡ cond b (take u memory ++ ys) (take u memory) → f ≤ length (take u' memory')
    longer true e = let a = ap length e in let l = length-append (take u memory) ys in omega arith
    longer false e = let a = ap length e in omega arith

-- the last of some places, or the one before them
pub last_is : (s : ℕ) (es : List ℕ) → unwrap_or (slice_get es (length es - 1)) s ≡ final s es
last_is s [] = refl
last_is s (e ∷ []) = ap (λ n. unwrap_or (slice_get (e ∷ []) n) s) (let e : length (e ∷ []) - 1 ≡ 0 = omega arith in e)
last_is s (e ∷ (f ∷ es)) = ap (λ n. unwrap_or (slice_get (e ∷ (f ∷ es)) n) s) (let e : length (e ∷ (f ∷ es)) - 1 ≡ suc (length (f ∷ es) - 1) = omega arith in e) ∙ last_is s (f ∷ es)
