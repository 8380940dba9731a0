-- At most one entry a start: an insert keeps it, and what it says. Assumes nothing.
use Rattle.std.proofs.Common.{◌≡◌, ℕ, zero, suc, ◌<◌, Bool, true, false, cond, not, eqb, List, [], ◌∷◌, ◌++◌, length, is_some, Some, None, Option, sym, refl, ap, ◌∙◌, arith}
use Rattle.std.proofs.lemmas.Bool.{eq-eqb, ne_eqb, eqb-false, cond-true, and_parts, and_from, true≢false, not-true, not_from_false}
use Rattle.std.proofs.lemmas.List.{map_push}
use Rattle.slots.specs.declared.map.Slot.{Slot}
use Rattle.slots.specs.Entries.{lookup, has_slot, inserted, distinct, start_at, OneAStart}
use Rattle.slots.specs.Slots.{told, entries}

-- what is not there is None
none_is : {V : Type 0} (o : Option V) → is_some o ≡ false → o ≡ None
none_is (Some v) e = absurd (true≢false e)
none_is None e = refl

swapped : (a b : ℕ) → eqb a b ≡ false → eqb b a ≡ false
swapped a b e = ne_eqb b a (λ h. eqb-false a b e (sym h))

module _ {V : Type 0} where
  head_other : (b : Bool) (x : V) (o : Option V) → is_some (cond b (Some x) o) ≡ false → (b ≡ false) × (is_some o ≡ false)
  head_other true x o e = absurd (true≢false e)
  head_other false x o e = (refl, e)

  other_head : (b : Bool) (x : V) (o : Option V) → b ≡ false → is_some o ≡ false → is_some (cond b (Some x) o) ≡ false
  other_head true x o e f = absurd (true≢false e)
  other_head false x o e f = f

  -- one entry more, of another start
  added_other : (es : List (ℕ × V)) (s t : ℕ) (v : V) → eqb s t ≡ false → is_some (lookup es t) ≡ false → is_some (lookup (es ++ ((s, v) ∷ [])) t) ≡ false
  added_other [] s t v n h = other_head (eqb s t) v None n refl
  added_other (e ∷ es) s t v n h =
      let p = head_other (eqb e.0 t) e.1 (lookup es t) h in
      other_head (eqb e.0 t) e.1 (lookup (es ++ ((s, v) ∷ [])) t) p.0 (added_other es s t v n p.1)

  pub distinct_added : (es : List (ℕ × V)) (s : ℕ) (v : V) → distinct es ≡ true → is_some (lookup es s) ≡ false → distinct (es ++ ((s, v) ∷ [])) ≡ true
  distinct_added [] s v d h = refl
  distinct_added (e ∷ es) s v d h =
      let p = and_parts (not (is_some (lookup es e.0))) (distinct es) d in
      let q = head_other (eqb e.0 s) e.1 (lookup es s) h in
      and_from (not (is_some (lookup (es ++ ((s, v) ∷ [])) e.0))) (distinct (es ++ ((s, v) ∷ [])))
      (not_from_false _ (added_other es s e.0 v (swapped e.0 s q.0) (not-true _ p.0)))
      (distinct_added es s v p.1 q.1)

  pub distinct_inserted : (es es' : List (ℕ × V)) (room s : ℕ) (v : V) → es' ≡ inserted es room s v → distinct es ≡ true → distinct es' ≡ true
  distinct_inserted es es' room s v e d = ap distinct e ∙ go (has_slot es room) (is_some (lookup es s)) refl
    where
      go : (b c : Bool) → is_some (lookup es s) ≡ c → distinct (cond b (cond c es (es ++ ((s, v) ∷ []))) es) ≡ true
      go false c h = d
      go true true h = d
      go true false h = distinct_added es s v d h

  -- one slot more, where one is free
  pub distinct_pushed : (xs xs' : List (Slot V)) (free : Bool) (x : Slot V) → xs' ≡ cond free (xs ++ (x ∷ [])) xs → is_some (lookup (entries xs) x.start) ≡ false → distinct (entries xs) ≡ true → distinct (entries xs') ≡ true
  distinct_pushed xs xs' false x e h d = ap (λ ys. distinct (entries ys)) e ∙ d
  distinct_pushed xs xs' true x e h d = ap (λ ys. distinct (entries ys)) e ∙ ap distinct (map_push told xs x) ∙ distinct_added (entries xs) x.start x.value d h

  -- what stands in the entries is found
  found : (es : List (ℕ × V)) (j : ℕ) → j < length es → is_some (lookup es (start_at es j)) ≡ true
  found [] j h = absurd (omega arith)
  found (e ∷ es) zero h = ap is_some (cond-true (eqb e.0 e.0) (Some e.1) (lookup es e.0) (eq-eqb e.0 e.0 refl))
  found (e ∷ es) (suc j) h = go (eqb e.0 (start_at es j)) (found es j (omega arith))
    where
      go : (b : Bool) → is_some (lookup es (start_at es j)) ≡ true → is_some (cond b (Some e.1) (lookup es (start_at es j))) ≡ true
      go true k = refl
      go false k = k

  alone : (e : ℕ × V) (es : List (ℕ × V)) (j : ℕ) → distinct (e ∷ es) ≡ true → j < length es → e.0 ≡ start_at es j → ⊥
  alone e es j d h k =
      let p = and_parts (not (is_some (lookup es e.0))) (distinct es) d in
      true≢false (sym (found es j h) ∙ ap (λ t. is_some (lookup es t)) (sym k) ∙ not-true _ p.0)

  pub one_a_start : (es : List (ℕ × V)) → distinct es ≡ true → OneAStart es
  one_a_start [] d i j h k e = absurd (omega arith)
  one_a_start (x ∷ es) d zero zero h k e = refl
  one_a_start (x ∷ es) d zero (suc j) h k e = absurd (alone x es j d (omega arith) e)
  one_a_start (x ∷ es) d (suc i) zero h k e = absurd (alone x es i d (omega arith) (sym e))
  one_a_start (x ∷ es) d (suc i) (suc j) h k e = ap suc (one_a_start es (and_parts (not (is_some (lookup es x.0))) (distinct es) d).1 i j (omega arith) (omega arith) e)
