-- What the acts of a store of units do to what it holds. Assumes nothing.
use Rattle.std.proofs.Common.{◌≡◌, ℕ, Bool, true, false, cond, suc, leb, [], ◌∷◌, ◌++◌, length, ap, arith}
use Rattle.std.proofs.lemmas.List.{length-append}
use Rattle.store.specs.Held.{load, fits, with_unit}
use Rattle.cuts.specs.declared.lists.Cuts.{Cuts}
use Rattle.cuts.specs.Lists.{used, lists, opened, capacity_of, places_of, has_cell}
use Rattle.units.specs.Meaning.{held_of}
use Rattle.units.specs.Law.{load_is}

-- one unit more fits where a cell is free
pub fits_is : (c : Cuts ℕ) (u : ℕ) → fits length (held_of c) u ≡ has_cell c
fits_is c u =
    let a = load_is c in
    let b = length-append (opened c) (u ∷ []) in
    let e : load length (with_unit (held_of c) u) ≡ suc (length (used c)) = omega arith in
    ap (λ n. leb n (capacity_of c)) e

-- what a store holds after a call, from its lists
pub held_with : (c c' : Cuts ℕ) (u : ℕ) (b : Bool) → lists c' ≡ lists c → opened c' ≡ cond b (opened c ++ (u ∷ [])) (opened c) → places_of c' ≡ places_of c → capacity_of c' ≡ capacity_of c → held_of c' ≡ cond b (with_unit (held_of c) u) (held_of c)
held_with c c' u true l d p r = λ j. record { values = l j; draft = d j; places = p j; capacity = r j }
held_with c c' u false l d p r = λ j. record { values = l j; draft = d j; places = p j; capacity = r j }
