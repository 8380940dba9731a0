-- A literal's units put one after another into the open value. Assumes nothing.
use Rattle.std.proofs.Common.{◌≡◌, ℕ, ◌+◌, ◌<◌, ◌≤◌, Bool, true, false, cond, ◌&&◌, List, [], ◌∷◌, ◌++◌, Some, Ok, Err, Result, length, sym, refl, ap, ◌∙◌, subst, ⊎_elim, arith}
use Rattle.std.specs.Iterator.{Drains}
use Rattle.std.proofs.lemmas.Bool.{leb-false, lt-leb, le-leb, cond-true, cond-false, cases_Bool, true≢false}
use Rattle.grammar.specs.Utf8.{utf8}
use Rattle.grammar.specs.Reading.{Read}
use Rattle.grammar.specs.Outcome.{units_read}
use Rattle.grammar.proofs.Readings.{readings_are_one}
use Rattle.store.specs.Held.{Held, holding, with_unit, dropped, closed, in_room, fits, has_place, Narrow, Sound, kept, keep_told}
use Rattle.store.proofs.Narrows.{narrow_append}
use Rattle.look.specs.declared.literal.Literal.{Literal}
use Rattle.look.specs.declared.units.UnitReader.{UnitReader}
use Rattle.look.specs.Units.{Gave, AllGiven, Gives}
use Rattle.look.proofs.GivesUnits.{given_in}
use Rattle.session.specs.Literals.{IsRead}

-- those that a loop over them took are all of them
pub drained : (l : Literal) (q r : UnitReader) (us : List ℕ) → (q.cursor ≡ l.inside) × (q.opening ≡ l.opening) → Gave q l.start [] → r ≡ q → Drains Gives r us → AllGiven l.inside.bytes.now l.start l.opening us
drained l q r us (e, f) g i d = given_in l r us (ap (λ (z : UnitReader). z.cursor) i ∙ e, ap (λ (z : UnitReader). z.opening) i ∙ f) (subst (λ (z : UnitReader). Gave z l.start []) (sym i) g) d

-- these units were given, and they are in the open value, as long as they fit
pub record Midway (w : List ℕ → ℕ) (h₀ : Held) (given : List ℕ) (h : Held) (b : Bool) : Type 0 where
  pub narrow : Narrow given
  pub in_full : b ≡ true → h ≡ holding h₀ given
  pub too_many : b ≡ false → (dropped h ≡ dropped h₀) × (in_room w (holding h₀ given) ≡ false)

-- before the first: the open value was dropped
pub begun : (w : List ℕ → ℕ) (h₀ h : Held) → h ≡ dropped h₀ → Midway w h [] h true
begun w h₀ h e = record { narrow = tt; in_full = λ t. e ∙ ap dropped (sym e); too_many = λ f. absurd (true≢false f) }

-- from the state before a stranger's open value was dropped
pub rebased : (w : List ℕ → ℕ) (h h₀ k : Held) (given : List ℕ) (b : Bool) → h₀ ≡ dropped h → Midway w h₀ given k b → Midway w h given k b
rebased w h h₀ k given b e mid = record {
  narrow = mid.narrow;
  in_full = λ t. mid.in_full t ∙ ap (λ (z : Held). holding z given) e;
  too_many = λ f. ((mid.too_many f).0 ∙ ap dropped e, sym (ap (λ (z : Held). in_room w (holding z given)) e) ∙ (mid.too_many f).1);
}

module _ (w : List ℕ → ℕ) (h₀ : Held) (given : List ℕ) (h : Held) (b : Bool) (mid : Midway w h₀ given h b) where
  module _ (heavier : (v : List ℕ) (u : ℕ) → Narrow v → u < 65536 → w v + 1 ≤ w (v ++ (u ∷ []))) (u : ℕ) (small : u < 65536) where
    grows : in_room w (holding h₀ given) ≡ false → in_room w (holding h₀ (given ++ (u ∷ []))) ≡ false
    grows e = let a = leb-false _ _ e in let m = heavier given u mid.narrow small in lt-leb _ _ (omega arith)

    full_by : (c d : Bool) (h' : Held) → b ≡ c → fits w h u ≡ d → h' ≡ cond (c && d) (with_unit h u) h → (c && d) ≡ true → h' ≡ holding h₀ (given ++ (u ∷ []))
    full_by true true h' eb ef after t = after ∙ ap (λ (z : Held). with_unit z u) (mid.in_full eb)
    full_by true false h' eb ef after t = absurd (true≢false (sym t))
    full_by false d h' eb ef after t = absurd (true≢false (sym t))

    over_by : (c d : Bool) (h' : Held) → b ≡ c → fits w h u ≡ d → h' ≡ cond (c && d) (with_unit h u) h → (c && d) ≡ false → (dropped h' ≡ dropped h₀) × (in_room w (holding h₀ (given ++ (u ∷ []))) ≡ false)
    over_by true true h' eb ef after t = absurd (true≢false t)
    over_by true false h' eb ef after t = (ap dropped (after ∙ mid.in_full eb), sym (ap (λ (z : Held). fits w z u) (mid.in_full eb)) ∙ ef)
    over_by false d h' eb ef after t = (ap dropped after ∙ (mid.too_many eb).0, grows (mid.too_many eb).1)

    -- one unit more
    pub one_more : (h' : Held) (b' : Bool) → b' ≡ b && fits w h u → h' ≡ cond (b && fits w h u) (with_unit h u) h → Midway w h₀ (given ++ (u ∷ [])) h' b'
    one_more h' b' answer after = record {
      narrow = narrow_append given (u ∷ []) mid.narrow (small, tt);
      in_full = λ t. full_by b (fits w h u) h' refl refl after (sym answer ∙ t);
      too_many = λ f. over_by b (fits w h u) h' refl refl after (sym answer ∙ f);
    }

  -- all are given: they are the units of the reading
  module _ (l : Literal) (all : AllGiven l.inside.bytes.now l.start l.opening given) (r : Read) (us : List ℕ) (reads : IsRead l r) (is : units_read r ≡ Some us) where
    units_are : us ≡ given
    units_are = all.value us (ap units_read (sym (readings_are_one (utf8 l.inside.bytes.now) r all.read (reads.1 ∙ sym all.starts) reads.0 all.reading)) ∙ is)

    module _ (place : has_place h₀ ≡ true) (sound : Sound w h) where
      fits_in : b ≡ true → h ≡ holding h₀ us
      fits_in e = mid.in_full e ∙ ap (holding h₀) (sym units_are)

      pub finished :
          (a : Result ℕ ℕ) (h' : Held)
          → (b ≡ true → (a ≡ cond (has_place h) (Ok (length h.values)) (Err 11)) × (h' ≡ cond (has_place h) (closed h) h)) → (b ≡ false → (a ≡ Err 12) × (h' ≡ dropped h))
          → (a ≡ keep_told w h₀ us) × (h' ≡ kept w h₀ us)
      finished a h' closes drops =
          ⊎_elim
          (λ t.
          let so = fits_in t in
          let room : in_room w (holding h₀ us) ≡ true = le-leb _ _ (subst (Sound w) so sound).light in
          let p : has_place h ≡ true = ap has_place so ∙ place in (
            (closes t).0 ∙ cond-true _ _ _ p ∙ ap (λ (z : Held). Ok (length z.values)) so ∙ sym (cond-true _ _ _ room) ∙ sym (cond-true _ _ _ place),
            (closes t).1 ∙ cond-true _ _ _ p ∙ ap closed so ∙ sym (cond-true _ _ _ room) ∙ sym (cond-true _ _ _ place),
          ))
          (λ f.
          let none : in_room w (holding h₀ us) ≡ false = ap (λ z. in_room w (holding h₀ z)) units_are ∙ (mid.too_many f).1 in (
            (drops f).0 ∙ sym (cond-false _ _ _ none) ∙ sym (cond-true _ _ _ place),
            (drops f).1 ∙ (mid.too_many f).0 ∙ sym (cond-false _ _ _ none) ∙ sym (cond-true _ _ _ place),
          ))
          (cases_Bool b)
