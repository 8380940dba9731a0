-- A value filed: a place and capacity, and then an entry. Assumes nothing.
use Rattle.std.proofs.Common.{◌≡◌, ℕ, Bool, true, false, cond, List, length, drop, is_some, Some, None, Ok, Err, Option, Result, refl, ◌∙◌, sym, subst, inl, inr}
use Rattle.std.proofs.lemmas.Bool.{cond-true, cond-false}
use Rattle.refusals.specs.declared.Refusal.{Refusal}
use Rattle.refusals.specs.Numbers.{number_of, numbered}
use Rattle.slots.specs.declared.map.SlotMap.{SlotMap}
use Rattle.slots.specs.Entries.{has_slot, lookup, inserted}
use Rattle.slots.specs.Views.{entries_of, slots_of, room_of}
use Rattle.store.specs.Held.{Held, holding, dropped, closed, in_room, has_place, kept, keep_told}
use Rattle.session.specs.Scans.{Put, Unput, Files}

-- what a whole value stored tells

module _ (w : List ℕ → ℕ) (h : Held) (us : List ℕ) where
  stored : (p i : Bool) (n : ℕ) (h' : Held) → has_place h ≡ p → in_room w (holding h us) ≡ i → ◌≡◌ {A = Result ℕ ℕ} (Ok n) (cond p (cond i (Ok (length h.values)) (Err 12)) (Err 11)) → h' ≡ cond p (cond i (closed (holding h us)) (dropped h)) h → Put w h (Some us) (Some n) h'
  stored true true n h' ep ei e f = (cc, ep, ei, f)
  stored true false n h' ep ei e f = absurd cc
  stored false i n h' ep ei e f = absurd cc

  unstored : (p i : Bool) (n : ℕ) (h' : Held) → has_place h ≡ p → in_room w (holding h us) ≡ i → ◌≡◌ {A = Result ℕ ℕ} (Err n) (cond p (cond i (Ok (length h.values)) (Err 12)) (Err 11)) → h' ≡ cond p (cond i (closed (holding h us)) (dropped h)) h → Unput w h (Some us) n h'
  unstored true true n h' ep ei e f = absurd cc
  unstored true false n h' ep ei e f = inr (cc, ep, ei, f)
  unstored false i n h' ep ei e f = inl (cc, ep, f)

-- where one is cooked

pub put_by : (w : List ℕ → ℕ) (h : Held) (u : Option (List ℕ)) (n : ℕ) (h' : Held) → is_some u ≡ true → ((us : List ℕ) → u ≡ Some us → (Ok n ≡ keep_told w h us) × (h' ≡ kept w h us)) → Put w h u (Some n) h'
put_by w h None n h' e f = absurd cc
put_by w h (Some us) n h' e f = let p = f us refl in stored w h us (has_place h) (in_room w (holding h us)) n h' refl refl p.0 p.1

pub unput_by : (w : List ℕ → ℕ) (h : Held) (u : Option (List ℕ)) (n : ℕ) (h' : Held) → is_some u ≡ true → ((us : List ℕ) → u ≡ Some us → (Err n ≡ keep_told w h us) × (h' ≡ kept w h us)) → Unput w h u n h'
unput_by w h None n h' e f = absurd cc
unput_by w h (Some us) n h' e f = let p = f us refl in unstored w h us (has_place h) (in_room w (holding h us)) n h' refl refl p.0 p.1

module _ {V : Type 0} (holds : Option ℕ → V → Type 0) (w : List ℕ → ℕ) (x : SlotMap V) (h : Held) (s : ℕ) (u : Option (List ℕ)) (free : has_slot (entries_of x) (room_of x) ≡ true) where
  pub unfiled : (a : Result (Unit {0}) Refusal) (e : Refusal) (h' : Held) → a ≡ Err e → Unput w h u (number_of e) h' → Files holds w x h s u a x h'
  unfiled a e h' is n = subst (λ (z : Result (Unit {0}) Refusal). Files holds w x h s u z x h') (sym is) (refl, inr (free, n))

  -- the insert goes through
  pub filed :
      (a : Result (Unit {0}) Refusal) (x' : SlotMap V) (h' : Held) (o : Option ℕ) (v : V) → holds o v → is_some (lookup (entries_of x) s) ≡ false → Put w h u o h'
      → numbered a ≡ cond (has_slot (entries_of x) (room_of x)) (Ok tt) (Err 10) → entries_of x' ≡ inserted (entries_of x) (room_of x) s v → drop 4096 (slots_of x') ≡ drop 4096 (slots_of x) → room_of x' ≡ room_of x
      → Files holds w x h s u a x' h'
  filed (Ok t) x' h' o v is none put answer after past room =
      (o, v, is, put, record { free = free; entries = after ∙ cond-true _ _ _ free ∙ cond-false _ _ _ none; past = past; room = room })
  filed (Err e) x' h' o v is none put answer after past room = let z : ◌≡◌ {A = Result (Unit {0}) ℕ} (Err (number_of e)) (Ok tt) = answer ∙ cond-true _ _ _ free in absurd cc
