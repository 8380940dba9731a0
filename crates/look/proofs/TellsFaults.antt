-- The reader of faults, piece by piece. Assumes nothing.
use Rattle.std.proofs.Common.{◌≡◌, ℕ, suc, ◌+◌, ◌-◌, ◌<◌, Bool, true, false, cond, ◌||◌, List, [], ◌∷◌, ◌++◌, length, Some, None, Option, sym, refl, ap, ◌∙◌, subst, ap₂, append_assoc, arith}
use Rattle.std.specs.Prelude.{option_to_list}
use Rattle.std.specs.Bool.{then_some}
use Rattle.std.specs.Iterator.{Yields, Drains}
use Rattle.faults.specs.declared.list.Fault.{Fault}
use Rattle.faults.specs.declared.list.FaultKind.TheVariants.{Unterminated, InvalidEscape}
use Rattle.grammar.specs.Utf8.{utf8}
use Rattle.grammar.specs.Value.{joined}
use Rattle.grammar.specs.Outcome as outcome
use Rattle.tokens.specs.Grammar.{recorded, fault_of}
use Rattle.escapes.specs.Escapes.{Part}
use Rattle.std.proofs.lemmas.List.{append-nil}
use Rattle.escapes.proofs.Parts.{part_join, no_step}
use Rattle.pieces.specs.Plain.{Plain, spelt, utf16s}
use Rattle.pieces.specs.Pieces.{scan_of, body_of, ending_of, Ends}
use Rattle.pieces.specs.declared.piece.Opening.{Opening}
use Rattle.pieces.specs.declared.piece.Ending.{Ending}
use Rattle.pieces.specs.declared.piece.Piece.{Piece}
use Rattle.source.specs.declared.cursor.Cursor.{Cursor}
use Rattle.look.specs.Goes.{PassedRead, faults_at}
use Rattle.look.specs.Told.{due, FaultsUpto, AllTold, ToldAt, Told, ToldAll, Same, Tells, left_at, left}
use Rattle.look.specs.Units.{Opened}
use Rattle.look.specs.declared.faulty.Due.{Due}
use Rattle.look.specs.declared.faulty.FaultReader.{FaultReader}
use Rattle.look.specs.declared.go.Passed.{Passed}
use Rattle.look.specs.declared.literal.Literal.{Literal}
use Rattle.look.proofs.Running.{On}

recorded_append : (fs gs : List outcome.Fault) → recorded (fs ++ gs) ≡ recorded fs ++ recorded gs
recorded_append [] gs = refl
recorded_append (f ∷ fs) gs = ap (λ z. fault_of f ∷ z) (recorded_append fs gs)

-- the start
pub told_new : (bs : List ℕ) (start : ℕ) (o : Opening) (at : ℕ) → Opened bs start o → at ≡ start + 1 → FaultsUpto bs start o at []
told_new bs start o at x e =
    record { opened = x; units = Some []; faults = []; mark = false; part = subst (Part (body_of o) (utf8 bs) (start + 1) (Some []) [] false) (sym e) (no_step (body_of o) (utf8 bs) (start + 1)); told = refl }

-- plain characters have no fault
upto_plain : (bs : List ℕ) (start : ℕ) (o : Opening) (p q : ℕ) (fs : List Fault) → FaultsUpto bs start o p fs → Plain (body_of o) bs p q → FaultsUpto bs start o q fs
upto_plain bs start o p q fs x y =
    record {
      opened = x.opened;
      units = joined x.units (Some (utf16s (spelt bs p q)));
      faults = x.faults ++ [];
      mark = x.mark || false;
      part = part_join (body_of o) (utf8 bs) (start + 1) p q x.units (Some (utf16s (spelt bs p q))) x.faults [] x.mark false x.part y.part;
      told = ap recorded (append-nil x.faults) ∙ x.told;
    }

-- the fault of a stop, or none
abbrev pub told_at : ℕ → Passed → List Fault
told_at p w = cond w.faulty (record { kind = InvalidEscape; from = p; to = w.next } ∷ []) []

recorded_at : (p : ℕ) (w : Passed) (b : Bool) → recorded (cond b (outcome.fault outcome.invalid_escape p w.next ∷ []) []) ≡ cond b (record { kind = InvalidEscape; from = p; to = w.next } ∷ []) []
recorded_at p w true = refl
recorded_at p w false = refl

upto_on : (bs : List ℕ) (start : ℕ) (o : Opening) (p q : ℕ) (w : Passed) (fs : List Fault) → FaultsUpto bs start o p fs → Plain (body_of o) bs p q → PassedRead (body_of o) bs q w → FaultsUpto bs start o w.next (fs ++ told_at q w)
upto_on bs start o p q w fs x y h =
    let x₁ = upto_plain bs start o p q fs x y in
    record {
      opened = x₁.opened;
      units = joined x₁.units h.units;
      faults = x₁.faults ++ faults_at q w;
      mark = x₁.mark || w.marked;
      part = part_join (body_of o) (utf8 bs) (start + 1) q w.next x₁.units h.units x₁.faults (faults_at q w) x₁.mark w.marked x₁.part h.on.part;
      told = recorded_append x₁.faults (faults_at q w) ∙ ap₂ ◌++◌ x₁.told (recorded_at q w w.faulty);
    }

-- the end
all_told : (bs : List ℕ) (start : ℕ) (o : Opening) (p q : ℕ) (e : Ending) (end n : ℕ) (fs : List Fault) → FaultsUpto bs start o p fs → Plain (body_of o) bs p q → Ends (body_of o) bs q (ending_of e) end
    → recorded (outcome.end_faults (ending_of e) start end) ≡ due start end n → AllTold bs start o (fs ++ due start end n)
all_told bs start o p q e end n fs x y h d =
    let x₁ = upto_plain bs start o p q fs x y in
    record {
      read = record { scan = scan_of o; from = start; opens = x.opened.leaves; start = start + 1; steps = x₁.part.nodes; stop = q; ending = ending_of e; ends = h.leaves; to = end };
      reading = record { opened = x.opened.takes; stepped = x₁.part.chain; ended = h.takes };
      starts = refl;
      scans = refl;
      all = recorded_append (outcome.faults_of x₁.part.nodes) (outcome.end_faults (ending_of e) start end) ∙ ap₂ ◌++◌ (ap recorded x₁.part.faulted ∙ x₁.told) d;
    }

-- THE SAME OF READERS

inside : (r : FaultReader) (fs : List Fault) → r.due ≡ None → Told r fs → FaultsUpto r.cursor.bytes.now r.start r.opening r.cursor.place.at fs
inside r fs e x = subst (λ z. ToldAt r.cursor.bytes.now r.start r.opening r.cursor.place.at z fs) e x

left_inside : (bs : List ℕ) (at : ℕ) (d : Option Due) → d ≡ None → left_at bs at d ≡ 3 + (length bs - at)
left_inside bs at d e = ap (left_at bs at) e

listed : (f : Fault) (b : Bool) (g : Option Fault) → g ≡ then_some b f → option_to_list g ≡ cond b (f ∷ []) []
listed f true g e = ap option_to_list e
listed f false g e = ap option_to_list e

-- a stop that is passed
pub passed_told :
    (r : FaultReader) (k : Cursor) (y : Piece) (w : Passed) (g : Option Fault) (fs : List Fault) → On r.cursor.bytes.now r.opening r.cursor y w k.place.at → k.bytes.now ≡ r.cursor.bytes.now → r.due ≡ None
    → g ≡ then_some w.faulty (record { kind = InvalidEscape; from = y.to; to = w.next }) → Told r fs → ToldAt k.bytes.now r.start r.opening k.place.at r.due (fs ++ option_to_list g)
passed_told r k y w g fs d j e i x =
    let bs = r.cursor.bytes.now in
    let o = r.opening in
    let z = upto_on bs r.start o r.cursor.place.at y.to w fs (inside r fs e x) d.plain d.passed in
    let z₁ = subst (λ p. FaultsUpto bs r.start o p (fs ++ told_at y.to w)) (sym d.place) z in
    let z₂ = subst (λ p. FaultsUpto bs r.start o k.place.at (fs ++ p)) (sym (listed (record { kind = InvalidEscape; from = y.to; to = w.next }) w.faulty g i)) z₁ in
    let z₃ = subst (λ b. FaultsUpto b r.start o k.place.at (fs ++ option_to_list g)) (sym j) z₂ in
    subst (λ p. ToldAt k.bytes.now r.start o k.place.at p (fs ++ option_to_list g)) (sym e) z₃

pub passed_left : (r : FaultReader) (k : Cursor) (y : Piece) (w : Passed) → On r.cursor.bytes.now r.opening r.cursor y w k.place.at → k.bytes.now ≡ r.cursor.bytes.now → r.due ≡ None → left_at k.bytes.now k.place.at r.due < left r
passed_left r k y w d j e = let n = ap length j in omega (arith, left_inside k.bytes.now k.place.at r.due e, left_inside r.cursor.bytes.now r.cursor.place.at r.due e, d.moves, d.within)

-- the end
pub end_told :
    (r : FaultReader) (q : ℕ) (e : Ending) (d : Due) (fs : List Fault) → r.due ≡ None → Plain (body_of r.opening) r.cursor.bytes.now r.cursor.place.at q → Ends (body_of r.opening) r.cursor.bytes.now q (ending_of e) d.end
    → ((p q : ℕ) → recorded (outcome.end_faults (ending_of e) p q) ≡ due p q d.count) → Told r fs → AllTold r.cursor.bytes.now r.start r.opening ((fs ++ []) ++ due r.start d.end d.count)
end_told r q e d fs i y h n x =
    let bs = r.cursor.bytes.now in
    let z = all_told bs r.start r.opening r.cursor.place.at q e d.end d.count fs (inside r fs i x) y h (n r.start d.end) in
    subst (λ k. AllTold bs r.start r.opening (k ++ due r.start d.end d.count)) (sym (append-nil fs)) z

-- one of the faults that are due behind it
pub due_told :
    (r : FaultReader) (d : Due) (n : ℕ) (fs : List Fault) → r.due ≡ Some d → d.count ≡ suc n → Told r fs → AllTold r.cursor.bytes.now r.start r.opening ((fs ++ record { kind = Unterminated; from = r.start; to = d.end } ∷ []) ++ due r.start d.end n)
due_told r d n fs e i x =
    let bs = r.cursor.bytes.now in
    let o = r.opening in
    let g : Fault = record { kind = Unterminated; from = r.start; to = d.end } in
    let z : AllTold bs r.start o (fs ++ due r.start d.end d.count) = subst (λ k. ToldAt bs r.start o r.cursor.place.at k fs) e x in
    let z₁ : AllTold bs r.start o (fs ++ g ∷ due r.start d.end n) = subst (λ k. AllTold bs r.start o (fs ++ due r.start d.end k)) i z in
    subst (AllTold bs r.start o) (sym (append_assoc fs (g ∷ []) (due r.start d.end n))) z₁

-- A RUN OF CALLS

same_on : (s j r : FaultReader) → Same s j → Same j r → Same s r
same_on s j r (a, b, c) (d, e, f) = (a ∙ d, b ∙ e, c ∙ f)

-- calls tell faults that follow those that were told
pub told_along : (r s : FaultReader) (fs gs : List Fault) → Told r fs → Yields Tells r gs s → Same s r × Told s (fs ++ gs)
told_along r s fs [] x y =
    ((ap (λ z. z.cursor.bytes.now) (sym y), ap (λ z. z.opening) (sym y), ap (λ z. z.start) (sym y)), subst (λ z. Told z (fs ++ [])) y (subst (Told r) (sym (append-nil fs)) x))
told_along r s fs (g ∷ gs) x (j, h, y) =
    let (e, k) = told_along j s (fs ++ g ∷ []) gs (h.1 fs x) y in
    (same_on s j r e h.0, subst (Told s) (append_assoc fs (g ∷ []) gs) k)

-- what is told of one reader is told of another of the same literal
all_same : (s r : FaultReader) (fs : List Fault) → Same s r → ToldAll s fs → ToldAll r fs
all_same s r fs (a, b, c) x =
    subst (λ p. AllTold r.cursor.bytes.now p r.opening fs) c (subst (λ o. AllTold r.cursor.bytes.now s.start o fs) b (subst (λ z. AllTold z s.start s.opening fs) a x))

-- and up to `None` they are all of them
pub told_drained : (r : FaultReader) (fs : List Fault) → Told r [] → Drains Tells r fs → ToldAll r fs
told_drained r fs x (u, (s, y, n)) =
    let (e, k) = told_along r s [] fs x y in
    all_same s r fs e (n.1 fs k)

-- those of a literal that was found
pub told_in : (l : Literal) (r : FaultReader) (fs : List Fault) → (r.cursor ≡ l.inside) × (r.opening ≡ l.opening) × (r.start ≡ l.start) → Told r [] → Drains Tells r fs → AllTold l.inside.bytes.now l.start l.opening fs
told_in l r fs (a, b, c) x d =
    subst (λ p. AllTold l.inside.bytes.now p l.opening fs) c (subst (λ o. AllTold l.inside.bytes.now r.start o fs) b (subst (λ k. AllTold k.bytes.now r.start r.opening fs) a (told_drained r fs x d)))
