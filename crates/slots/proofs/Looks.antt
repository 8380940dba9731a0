-- Looking an entry up among slots. Assumes nothing.
use Rattle.std.proofs.Common.{◌≡◌, ℕ, ◌+◌, ◌<◌, Bool, true, false, cond, eqb, ◌==◌, List, [], ◌∷◌, ◌++◌, map, length, get_or, take, drop, Some, None, Option, sym, refl, ap, ◌∙◌, arith, take-append-drop}
use Rattle.std.proofs.lemmas.List.{take_more, drop_more, map_push, map-append}
use Rattle.std.proofs.lemmas.Bool.{eq-eqb, ne_eqb, cond-true, cond-false}
use Rattle.std.specs.List.{find}
use Rattle.std.specs.Option.{option_map, MatchOption, IsSomeAnd}
use Rattle.slots.specs.declared.map.Slot.{Slot}
use Rattle.slots.specs.Entries.{lookup}
use Rattle.slots.specs.Slots.{told, entries}

-- what `map` answers by a closure that gives f
pub mapped : {A B : Type 0} (f : A → B) (o : Option A) (r : Option B) (Gives : A → B → Type 0) → MatchOption o (r ≡ None) (λ x. IsSomeAnd r (Gives x)) → ((x : A) (y : B) → Gives x y → y ≡ f x) → r ≡ option_map f o
mapped f None r Gives h k = h
mapped f (Some x) None Gives h k = absurd h
mapped f (Some x) (Some y) Gives h k = ap Some (k x y h)

module _ {V : Type 0} (start : ℕ) where
  met : (s : Slot V) (b : Bool) (o : Option (Slot V)) (h : Option V) → option_map (λ (x : Slot V). x.value) o ≡ h → option_map (λ (x : Slot V). x.value) (cond b (Some s) o) ≡ cond b (Some s.value) h
  met s true o h e = refl
  met s false o h e = e

  pub found_is : (slots : List (Slot V)) → option_map (λ (s : Slot V). s.value) (find (λ (s : Slot V). s.start == start) slots) ≡ lookup (entries slots) start
  found_is [] = refl
  found_is (s ∷ slots) = met s (s.start == start) _ _ (found_is slots)

  -- the same, of slots behind references
  pub valued : {A : Type 0} (now : A → Slot V) (o : Option A) → option_map (λ x. (now x).value) o ≡ option_map (λ (s : Slot V). s.value) (option_map now o)
  valued now None = refl
  valued now (Some x) = refl

-- SLOT BY SLOT

module _ {V : Type 0} where
  first : (e : ℕ × V) (es : List (ℕ × V)) (s : ℕ) → e.0 ≡ s → lookup (e ∷ es) s ≡ Some e.1
  first e es s h = cond-true (eqb e.0 s) (Some e.1) (lookup es s) (eq-eqb e.0 s h)

  later : (e : ℕ × V) (es : List (ℕ × V)) (s : ℕ) → (e.0 ≡ s → ⊥) → lookup (e ∷ es) s ≡ lookup es s
  later e es s h = cond-false (eqb e.0 s) (Some e.1) (lookup es s) (ne_eqb e.0 s h)

  pub none_parts : (b : Bool) (x : V) (o : Option V) → cond b (Some x) o ≡ None → (b ≡ false) × (o ≡ None)
  none_parts true x o e = let z : ◌≡◌ {A = ℕ} 0 1 = cc in absurd (omega arith)
  none_parts false x o e = (refl, e)

  -- entries without a start add nothing in front
  pub past : (xs ys : List (ℕ × V)) (s : ℕ) → lookup xs s ≡ None → lookup (xs ++ ys) s ≡ lookup ys s
  past [] ys s h = refl
  past (e ∷ xs) ys s h =
      let k = none_parts (eqb e.0 s) e.1 (lookup xs s) h in
      cond-false (eqb e.0 s) (Some e.1) (lookup (xs ++ ys) s) k.0 ∙ past xs ys s k.1

  pub missed : (xs : List (Slot V)) (i s : ℕ) (x : Slot V) → i < length xs → x ≡ get_or xs i x → (x.start ≡ s → ⊥) → lookup (map told (take i xs)) s ≡ None → lookup (map told (take (i + 1) xs)) s ≡ None
  missed xs i s x h r n e =
      ap (λ ys. lookup (map told ys) s) (take_more xs i x h ∙ ap (λ y. take i xs ++ (y ∷ [])) (sym r))
      ∙ ap (λ ys. lookup ys s) (map_push told (take i xs) x)
      ∙ past (map told (take i xs)) (told x ∷ []) s e
      ∙ later (told x) [] s n

  pub hit : (xs : List (Slot V)) (i s : ℕ) (x : Slot V) → i < length xs → x ≡ get_or xs i x → x.start ≡ s → lookup (map told (take i xs)) s ≡ None → Some x.value ≡ lookup (map told xs) s
  hit xs i s x h r k e =
      let split : xs ≡ take i xs ++ (x ∷ drop (i + 1) xs) = sym (take-append-drop i xs) ∙ ap (λ ys. take i xs ++ ys) (drop_more xs i x h ∙ ap (λ y. y ∷ drop (i + 1) xs) (sym r)) in
      sym
      (ap (λ ys. lookup (map told ys) s) split
      ∙ ap (λ ys. lookup ys s) (map-append told (take i xs) (x ∷ drop (i + 1) xs))
      ∙ past (map told (take i xs)) (told x ∷ map told (drop (i + 1) xs)) s e
      ∙ first (told x) (map told (drop (i + 1) xs)) s k)
