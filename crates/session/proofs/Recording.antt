-- A literal's faults recorded one after another. Assumes nothing.
use Rattle.std.proofs.Common.{◌≡◌, ◌+◌, ◌≤◌, true, cond, ltb, List, [], ◌∷◌, ◌++◌, length, drop, sym, refl, ap, ◌∙◌, subst, append_assoc, append-nil, arith}
use Rattle.std.specs.Iterator.{Drains}
use Rattle.std.proofs.lemmas.List.{length-append}
use Rattle.std.proofs.lemmas.Bool.{lt-ltb, cond-true}
use Rattle.grammar.specs.Utf8.{utf8}
use Rattle.grammar.specs.Reading.{Read}
use Rattle.grammar.specs.Outcome.{faults_read}
use Rattle.grammar.proofs.Readings.{readings_are_one}
use Rattle.tokens.specs.Grammar.{recorded}
use Rattle.faults.specs.declared.list.Fault.{Fault}
use Rattle.faults.specs.declared.list.FaultList.{FaultList}
use Rattle.faults.specs.Records.{faults_of, records_of, room_of}
use Rattle.look.specs.declared.literal.Literal.{Literal}
use Rattle.look.specs.declared.faulty.FaultReader.{FaultReader}
use Rattle.look.specs.Told.{Told, AllTold, Tells}
use Rattle.look.proofs.TellsFaults.{told_in}
use Rattle.session.specs.Literals.{IsRead}
use Rattle.session.specs.Scans.{Recorded}

-- those that a loop over them took are all of them
pub drained : (l : Literal) (q r : FaultReader) (fs : List Fault) → (q.cursor ≡ l.inside) × (q.opening ≡ l.opening) × (q.start ≡ l.start) → Told q [] → r ≡ q → Drains Tells r fs → AllTold l.inside.bytes.now l.start l.opening fs
drained l q r fs (e, f, g) t i d =
    told_in l r fs (ap (λ (z : FaultReader). z.cursor) i ∙ e, ap (λ (z : FaultReader). z.opening) i ∙ f, ap (λ (z : FaultReader). z.start) i ∙ g) (subst (λ (z : FaultReader). Told z []) (sym i) t) d

-- these faults are recorded, if there are records for them
abbrev pub Halfway : FaultList → List Fault → FaultList → Type 0
Halfway x₀ fs x = length (faults_of x₀) + length fs ≤ room_of x₀ → Recorded x₀ fs x

-- before the first
pub begun : (x : FaultList) → Halfway x [] x
begun x fits = record { faults = sym (append-nil (faults_of x)); unwritten = λ e. refl; past = refl; room = refl }

nil_push : {A : Type 0} (xs : List A) (x : A) → xs ++ (x ∷ []) ≡ [] → ⊥
nil_push xs x e = let a = ap length e in let b = length-append xs (x ∷ []) in omega arith

-- one fault more
pub one_more :
    (x₀ : FaultList) (given : List Fault) (x : FaultList) → Halfway x₀ given x
    → (f : Fault) (x' : FaultList) → faults_of x' ≡ cond (ltb (length (faults_of x)) (room_of x)) (faults_of x ++ (f ∷ [])) (faults_of x) → drop 4096 (records_of x') ≡ drop 4096 (records_of x) → room_of x' ≡ room_of x
    → Halfway x₀ (given ++ (f ∷ [])) x'
one_more x₀ given x mid f x' after past room fits =
    let more = length-append given (f ∷ []) in
    let old = mid (omega arith) in
    let all = length-append (faults_of x₀) given in
    let many = ap length old.faults in
    let same = old.room in
    let free : ltb (length (faults_of x)) (room_of x) ≡ true = lt-ltb _ _ (omega arith) in
    record {
      faults = after ∙ cond-true _ _ _ free ∙ ap (λ z. z ++ (f ∷ [])) old.faults ∙ append_assoc (faults_of x₀) given (f ∷ []);
      unwritten = λ n. absurd (nil_push given f n);
      past = past ∙ old.past;
      room = room ∙ old.room;
    }

-- all are told: they are the faults of the reading
pub finished : (x₀ : FaultList) (given : List Fault) (x : FaultList) → Halfway x₀ given x → (l : Literal) → AllTold l.inside.bytes.now l.start l.opening given → (r : Read) → IsRead l r → Halfway x₀ (recorded (faults_read r)) x
finished x₀ given x mid l all r reads =
    let same : r ≡ all.read = readings_are_one (utf8 l.inside.bytes.now) r all.read (reads.1 ∙ sym all.starts) reads.0 all.reading in
    subst (λ z. Halfway x₀ z x) (sym (ap (λ (z : Read). recorded (faults_read z)) same ∙ all.all)) mid
