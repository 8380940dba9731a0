-- The stops that are counted from a place on. Assumes nothing.
use Rattle.std.proofs.Common.{◌≡◌, ℕ, zero, suc, ◌+◌, ◌-◌, ◌<◌, ◌≤◌, Bool, true, cond, List, length, get_or, drop, sym, ap, ◌∙◌, zero-add, arith}
use Rattle.std.proofs.lemmas.List.Sums.{sum_by-drop_more}
use lib.Seq.{drop-length}
use Rattle.stops.specs.First.{Free, StopAt}
use Rattle.survey.specs.Tally.{tally}

-- the stops from a place on: that of the byte there, and those behind it
tally_step : (stops : ℕ → Bool) (bs : List ℕ) (i : ℕ) → i < length bs → tally stops (drop i bs) ≡ cond (stops (get_or bs i 0)) 1 0 + tally stops (drop (suc i) bs)
tally_step stops bs i h =
    let e : i + 1 ≡ suc i = omega arith in
    sum_by-drop_more (λ (b : ℕ). cond (stops b) 1 0) bs i 0 h ∙ ap (λ (m : ℕ). cond (stops (get_or bs i 0)) 1 0 + tally stops (drop m bs)) e

-- a part that is free of stops adds none
free_adds_none : (stops : ℕ → Bool) (bs : List ℕ) (n from : ℕ) → from + n ≤ length bs → Free stops bs from (from + n) → tally stops (drop from bs) ≡ tally stops (drop (from + n) bs)
free_adds_none stops bs zero from h f = ap (λ (m : ℕ). tally stops (drop m bs)) (omega arith)
free_adds_none stops bs (suc n) from h f =
    let e : from + suc n ≡ suc from + n = omega arith in
    tally_step stops bs from (omega arith) ∙ ap (λ (b : Bool). cond b 1 0 + tally stops (drop (suc from) bs)) (f from (omega arith) (omega arith)) ∙ zero-add (tally stops (drop (suc from) bs))
    ∙ free_adds_none stops bs n (suc from) (omega arith) (λ k a b. f k (omega arith) (omega arith)) ∙ ap (λ (m : ℕ). tally stops (drop m bs)) (sym e)

free_none : (stops : ℕ → Bool) (bs : List ℕ) (from to : ℕ) → from ≤ to → to ≤ length bs → Free stops bs from to → tally stops (drop from bs) ≡ tally stops (drop to bs)
free_none stops bs from to a b f =
    let e : from + (to - from) ≡ to = omega arith in
    free_adds_none stops bs (to - from) from (omega arith) (λ k l h. f k l (omega arith)) ∙ ap (λ (m : ℕ). tally stops (drop m bs)) e

-- the first stop adds one
pub one_more : (stops : ℕ → Bool) (bs : List ℕ) (from place byte : ℕ) → StopAt stops bs from place byte → tally stops (drop from bs) ≡ 1 + tally stops (drop (place + 1) bs)
one_more stops bs from place byte s =
    let e : suc place ≡ place + 1 = omega arith in
    let t : stops (get_or bs place 0) ≡ true = ap stops (sym s.read) ∙ s.stop in
    free_none stops bs from place s.behind (omega (arith, s.within)) s.first ∙ tally_step stops bs place s.within
    ∙ ap (λ (b : Bool). cond b 1 0 + tally stops (drop (suc place) bs)) t ∙ ap (λ (m : ℕ). 1 + tally stops (drop m bs)) e

-- where nothing stops any more, nothing is counted
pub no_more : (stops : ℕ → Bool) (bs : List ℕ) (from : ℕ) → from ≤ length bs → Free stops bs from (length bs) → tally stops (drop from bs) ≡ 0
no_more stops bs from h f = free_none stops bs from (length bs) h (omega arith) f ∙ ap (tally stops) (drop-length bs)
