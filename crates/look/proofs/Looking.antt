-- From a literal run through to the look at it. Assumes nothing.
use Rattle.std.proofs.Common.{◌≡◌, ℕ, zero, suc, ◌+◌, Bool, true, false, cond, ◌&&◌, List, [], ◌∷◌, length, is_some, Some, None, Option, sym, refl, ap, ◌∙◌, subst, arith, length-append}
use Rattle.std.specs.Prelude.{IfSome, unwrap_or}
use Rattle.grammar.specs.Utf8.{utf8}
use Rattle.grammar.specs.Literal as literal
use Rattle.grammar.specs.Reading as grammar
use Rattle.grammar.specs.Outcome as outcome
use Rattle.grammar.proofs.Exact.{accepts_exactly}
use Rattle.grammar.proofs.Readings.{readings_are_one}
use Rattle.tokens.specs.Grammar.{named, recorded}
use Rattle.tokens.specs.declared.Kind as kind
use Rattle.tokens.specs.declared.Kind.{Kind}
use Rattle.pieces.specs.Pieces.{scan_of, ending_of}
use Rattle.pieces.specs.declared.piece.Opening.{Opening}
use Rattle.look.specs.Looked.{terminated, stored, LookedAt, Accepts}
use Rattle.look.specs.Runs.{Ran}
use Rattle.look.specs.Told.{due}
use Rattle.look.specs.Units.{CountedUnits}
use Rattle.look.specs.declared.answer.Look.{Look}
use Rattle.look.specs.declared.run.Run.{Run}

-- THE COUNTS

recorded_length : (fs : List outcome.Fault) → length (recorded fs) ≡ length fs
recorded_length [] = refl
recorded_length (f ∷ fs) = ap suc (recorded_length fs)

due_length : (p q n : ℕ) → length (due p q n) ≡ n
due_length p q zero = refl
due_length p q (suc n) = ap suc (due_length p q n)

terminated_named : (k : Option literal.Kind) → terminated (named k) ≡ is_some k
terminated_named None = refl
terminated_named (Some literal.str) = refl
terminated_named (Some literal.no_substitution_template) = refl
terminated_named (Some literal.template_head) = refl
terminated_named (Some literal.template_middle) = refl
terminated_named (Some literal.template_tail) = refl

and_cond : (a b : Bool) → (a && b) ≡ cond a b false
and_cond true b = refl
and_cond false b = refl

-- the units of an entry
entry_units : (bs : List ℕ) (start : ℕ) (o : Opening) (read : grammar.Read) (m : Bool) (w : Option ℕ) → grammar.Reading (utf8 bs) read → read.from ≡ start → is_some w ≡ is_some (outcome.units_read read)
    → IfSome w (λ k. (m ≡ true → CountedUnits bs start o k) × (m ≡ false → k ≡ 0)) → unwrap_or w 0 ≡ stored (cond m (Some (outcome.units_read read)) None)
entry_units bs start o read m w x f e h = go m w (outcome.units_read read) refl e h
  where
    go : (m : Bool) (w : Option ℕ) (u : Option (List ℕ)) → outcome.units_read read ≡ u → is_some w ≡ is_some u → IfSome w (λ k. (m ≡ true → CountedUnits bs start o k) × (m ≡ false → k ≡ 0)) → unwrap_or w 0 ≡ stored (cond m (Some u) None)
    go true None None i e h = refl
    go false None u i e h = refl
    go false (Some k) u i e h = h.1 refl
    go true None (Some us) i e h = absurd (let z : ◌≡◌ {A = ℕ} 0 1 = cc in omega arith)
    go true (Some k) None i e h = absurd (let z : ◌≡◌ {A = ℕ} 0 1 = cc in omega arith)
    go true (Some k) (Some us) i e h = let y = h.0 refl in y.count us (ap outcome.units_read (readings_are_one (utf8 bs) y.read read (y.starts ∙ sym f) y.reading x) ∙ i)

-- what a look that was made of a run says
pub record Made (bs : List ℕ) (start : ℕ) (o : Opening) (r : Run) (n : ℕ) (l : Look) : Type 0 where
  pub starts : l.token.start ≡ start
  pub ends : l.token.end ≡ r.end
  pub kinded : l.token.kind ≡ named (outcome.kind_at (scan_of o) (ending_of r.ending))
  pub marked : l.token.escaped ≡ (terminated l.token.kind && r.tally.marked)
  pub faulted : l.faults ≡ r.tally.faults + n
  pub cooked : is_some l.units ≡ r.tally.cooked
  pub stored : IfSome l.units (λ k. (l.token.escaped ≡ true → CountedUnits bs start o k) × (l.token.escaped ≡ false → k ≡ 0))

pub looked_at :
    (bs : List ℕ) (start : ℕ) (o : Opening) (r : Run) (n : ℕ) (l : Look) → Ran bs start o r → ((p q : ℕ) → recorded (outcome.end_faults (ending_of r.ending) p q) ≡ due p q n) → Made bs start o r n l → LookedAt bs start o l
looked_at bs start o r n l x d m =
    let u = x.upto in
    let read : grammar.Read = record { scan = scan_of o; from = start; opens = x.opened.leaves; start = start + 1; steps = u.part.nodes; stop = x.stop; ending = ending_of r.ending; ends = x.ends.leaves; to = r.end } in
    let reading : grammar.Reading (utf8 bs) read = record { opened = x.opened.takes; stepped = u.part.chain; ended = x.ends.takes } in
    let e = d start r.end in
    let f = sym (recorded_length (outcome.end_faults (ending_of r.ending) start r.end)) ∙ ap length e ∙ due_length start r.end n in
    let g = ap length u.part.faulted in
    let mark : l.token.escaped ≡ outcome.mark_read read =
    m.marked ∙ ap (λ z. terminated z && r.tally.marked) m.kinded ∙ ap (λ z. z && r.tally.marked) (terminated_named (outcome.kind_read read)) ∙ and_cond (is_some (outcome.kind_read read)) r.tally.marked
    ∙ ap (λ z. cond (is_some (outcome.kind_read read)) z false) (sym u.part.marked) in
    let cook : r.tally.cooked ≡ is_some (outcome.units_read read) = u.cooked ∙ ap is_some (sym u.part.units) in
    record {
      read = read;
      reading = reading;
      from = refl;
      scans = refl;
      starts = m.starts;
      ends = m.ends;
      kinded = m.kinded;
      marked = mark;
      faulted = let a = length-append (outcome.faults_of u.part.nodes) (outcome.end_faults (ending_of r.ending) start r.end) in omega (arith, m.faulted, u.faulted);
      cooked = m.cooked ∙ cook;
      counted = entry_units bs start o read (outcome.mark_read read) l.units reading refl (m.cooked ∙ cook) (subst (λ z. IfSome l.units (λ k. (z ≡ true → CountedUnits bs start o k) × (z ≡ false → k ≡ 0))) mark m.stored);
    }

-- ACCEPTANCE

named_some : (o : Option literal.Kind) (k : literal.Kind) → named o ≡ named (Some k) → o ≡ Some k
named_some None literal.str e = absurd (let z : ◌≡◌ {A = ℕ} 0 1 = cc in omega arith)
named_some None literal.no_substitution_template e = absurd (let z : ◌≡◌ {A = ℕ} 0 1 = cc in omega arith)
named_some None literal.template_head e = absurd (let z : ◌≡◌ {A = ℕ} 0 1 = cc in omega arith)
named_some None literal.template_middle e = absurd (let z : ◌≡◌ {A = ℕ} 0 1 = cc in omega arith)
named_some None literal.template_tail e = absurd (let z : ◌≡◌ {A = ℕ} 0 1 = cc in omega arith)
named_some (Some j) k e = ap Some (back j ∙ ap kind_back e ∙ sym (back k))
  where
    kind_back : Kind → literal.Kind
    kind_back kind.TheVariants.Undetermined = literal.str
    kind_back kind.TheVariants.Str = literal.str
    kind_back kind.TheVariants.NoSubstitutionTemplate = literal.no_substitution_template
    kind_back kind.TheVariants.TemplateHead = literal.template_head
    kind_back kind.TheVariants.TemplateMiddle = literal.template_middle
    kind_back kind.TheVariants.TemplateTail = literal.template_tail

    back : (k : literal.Kind) → k ≡ kind_back (named (Some k))
    back literal.str = refl
    back literal.no_substitution_template = refl
    back literal.template_head = refl
    back literal.template_middle = refl
    back literal.template_tail = refl

no_faults : (fs : List outcome.Fault) → length fs ≡ 0 → fs ≡ []
no_faults [] e = refl
no_faults (f ∷ fs) e = absurd (omega arith)

pub accepts : (bs : List ℕ) (start : ℕ) (o : Opening) (l : Look) → LookedAt bs start o l → Accepts bs start l
accepts bs start o l x k e = (
  (λ h. let r = x.read in
      let f : outcome.faults_read r ≡ [] = no_faults (outcome.faults_read r) (sym x.faulted ∙ h.0) in
      let g = named_some (outcome.kind_read r) k (sym x.kinded ∙ h.1) in
      (outcome.units_read r, subst (λ z. literal.Derivable (utf8 bs) z k e (outcome.units_read r)) x.from ((accepts_exactly (utf8 bs) r k e (outcome.units_read r) x.reading).0 (record { faultless = f; of_kind = g; ends = sym x.ends ∙ h.2; valued = refl })))),
  (λ h. let v = (accepts_exactly (utf8 bs) x.read k e h.0 x.reading).1 (subst (λ z. literal.Derivable (utf8 bs) z k e h.0) (sym x.from) h.1) in
      (x.faulted ∙ ap length v.faultless, x.kinded ∙ ap named v.of_kind, x.ends ∙ v.ends)),
)
