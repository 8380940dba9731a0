-- A run of the ledger is a life that keeps the law. Assumes nothing.
use Rattle.std.proofs.Common.{◌≡◌, ℕ, ◌<◌, Bool, true, false, cond, ltb, ◌⊎◌, ◌↔◌, List, [], ◌∷◌, ◌++◌, map, length, get_or, is_some, Some, None, Option, sym, refl, ap, ◌∙◌, subst, inl, inr, ⊎_elim, append-nil, arith}
use Rattle.std.proofs.lemmas.List.{length-append, map_push}
use Rattle.std.proofs.lemmas.Bool.{cases_Bool, cases_lt, ltb-true, lt-ltb}
use Rattle.grammar.specs.Utf8.{utf8}
use Rattle.grammar.specs.Literal.{Kind, str, Tree, Derivation}
use Rattle.grammar.specs.Reading.{Read, Reading}
use Rattle.grammar.specs.Outcome.{kind_read, mark_read, faults_read, units_read}
use Rattle.grammar.specs.Laws.{Unfaulted}
use Rattle.grammar.proofs.Exact.{accepts_exactly}
use Rattle.grammar.proofs.Nones.{none_exactly}
use Rattle.grammar.proofs.Readings.{readings_are_one}
use Rattle.grammar.proofs.Unique.{derivations_are_one}
use Rattle.tokens.specs.declared.Token.{Token}
use Rattle.tokens.specs.Grammar.{named, recorded}
use Rattle.slots.proofs.Distincts.{one_a_start}
use Rattle.ledger.specs.Calls.{Sort, Call, scan, value, unit, fault_count, fault_at, Reply, token, turned_down, says}
use Rattle.ledger.specs.Ledger.{Limits, Ledger, made, token_of, has_entry, added, exceeded, Decided, Scanned, opens, kept_at, value_told, unit_told, value_asked, unit_asked, Step}
use Rattle.ledger.specs.Ledger.{needed_records, needed_slots, needed_places, needed_weight, free_records, free_slots, free_places, free_capacity}
use Rattle.ledger.specs.Life.{Line, exchange, Run, Among, Then, Accepts, Derived, Verbatim, Exceeds, Lived}
use Rattle.ledger.specs.Laws.{RunsKeep, Begins, GoesOn, calls_of, CallsDecide}
use Rattle.ledger.proofs.Values.{true_false, named_same, none_recorded, verbatim_is, unmarked_steps, faultless_by}
use Rattle.ledger.proofs.Runs.{kept_run, kept_at_line, kept_then, line_step, run_more, draft_empty, then_first, then_second}
use Rattle.ledger.proofs.Entries.{One, one_made, one_added, Good, good_made, good_added, kept_told, entry_stays, entry_made, kept_some}

same_token : {a b : Token} → token a ≡ token b → a ≡ b
same_token h = cc

-- what is added to a list and leaves it the same is nothing
nothing_added : {A : Type 0} (xs ys : List A) → xs ++ ys ≡ xs → ys ≡ []
nothing_added xs [] h = refl
nothing_added xs (y ∷ ys) h = absurd (let a : length (xs ++ y ∷ ys) ≡ length xs = ap length h in let b = length-append xs (y ∷ ys) in omega arith)

-- the first need that exceeds what is free
abbrev Tests : Bool → Bool → Bool → Bool → Option ℕ
Tests a b c d = cond a (Some 9) (cond b (Some 10) (cond c (Some 11) (cond d (Some 12) None)))

first_of : (a b c d : Bool) → (is_some (Tests a b c d) ≡ true) ↔ ((a ≡ true) ⊎ ((b ≡ true) ⊎ ((c ≡ true) ⊎ (d ≡ true))))
first_of true b c d = ((λ h. inl refl), (λ h. refl))
first_of false true c d = ((λ h. inr (inl refl)), (λ h. refl))
first_of false false true d = ((λ h. inr (inr (inl refl))), (λ h. refl))
first_of false false false true = ((λ h. inr (inr (inr refl))), (λ h. refl))
first_of false false false false = ((λ h. true_false (sym h)), (λ h. ⊎_elim (λ e. e) (⊎_elim (λ e. e) (⊎_elim (λ e. e) (λ e. e))) h))

exceeded_is : (w : List ℕ → ℕ) (m : Limits) (l : Ledger) (r : Read) → (is_some (exceeded w m l r) ≡ true) ↔ Exceeds w m l r
exceeded_is w m l r =
    let tests = first_of (ltb (free_records m l) (needed_records r)) (ltb (free_slots m l r) (needed_slots l r)) (ltb (free_places m l) (needed_places l r)) (ltb (free_capacity w m l) (needed_weight w l r)) in (
      (λ h. ⊎_elim (λ e. inl (ltb-true _ _ e)) (⊎_elim (λ e. inr (inl (ltb-true _ _ e))) (⊎_elim (λ e. inr (inr (inl (ltb-true _ _ e)))) (λ e. inr (inr (inr (ltb-true _ _ e)))))) (tests.0 h)),
      (λ h. tests.1 (⊎_elim (λ e. inl (lt-ltb _ _ e)) (⊎_elim (λ e. inr (inl (lt-ltb _ _ e))) (⊎_elim (λ e. inr (inr (inl (lt-ltb _ _ e)))) (λ e. inr (inr (inr (lt-ltb _ _ e)))))) h)),
    )

decided_refused : (o : Option ℕ) (r : Read) (l : Ledger) (a : Reply) (l' : Ledger) → Decided o r l a l' → turned_down a ≡ is_some o
decided_refused (Some n) r l a l' d = ap turned_down d.0
decided_refused None r l a l' d = ap turned_down d.0

decided_token : (o : Option ℕ) (r : Read) (l : Ledger) (a : Reply) (l' : Ledger) → Decided o r l a l' → turned_down a ≡ false → (a ≡ token (token_of r)) × (l' ≡ added l r)
decided_token (Some n) r l a l' d h = true_false (sym (ap turned_down d.0) ∙ h)
decided_token None r l a l' d h = d

module _ (w : List ℕ → ℕ) (m : Limits) (text : List ℕ) where
  -- a scan's step
  scan_step : (l : Ledger) (c : Call) (a : Reply) (l' : Ledger) (g : Sort) (s : ℕ) → c ≡ scan g s → Step w m text l c a l' → Scanned w m text g s l a l'
  scan_step l c a l' g s h t = subst (λ (z : Call). Step w m text l z a l') h t

  -- a scan not turned down has a reading, replies its token and adds what it brings
  abbrev Went : ℕ → Ledger → Reply → Ledger → Type 0
  Went s l a l' = (r : Read) × Reading (utf8 text) r × (r.from ≡ s) × (a ≡ token (token_of r)) × (l' ≡ added l r)

  went : (g : Sort) (s : ℕ) (l : Ledger) (a : Reply) (l' : Ledger) → Scanned w m text g s l a l' → turned_down a ≡ false → Went s l a l'
  went g s l a l' z h =
      ⊎_elim
      (λ lt. ⊎_elim
      (λ yes. let (r, x, f, i, d) = z.opened lt yes in let (t, k) = decided_token (exceeded w m l r) r l a l' d h in (r, x, f, t, k))
      (λ no. true_false (sym (ap turned_down (z.unopened lt no).0) ∙ h))
      (cases_Bool (opens g (get_or text s 0))))
      (λ ge. true_false (sym (ap turned_down (z.outside ge).0) ∙ h))
      (cases_lt s (length text))

  -- what an entry tells is the derivation's value
  kept_is :
      (l : Ledger) (r : Read) (s : ℕ) (k : Kind) (e : ℕ) (d : Tree) (u v : Option (List ℕ)) → Reading (utf8 text) r → r.from ≡ s → Derivation (utf8 text) s k e d u
      → kept_at l r.from ≡ Some v → (z : Read) × Reading (utf8 text) z × (z.from ≡ r.from) × (v ≡ units_read z) → kept_at l s ≡ Some u
  kept_is l r s k e d u v y f reads kept (z, yz, fz, is) =
      let un = (accepts_exactly (utf8 text) r k e u y).1 (d, subst (λ p. Derivation (utf8 text) p k e d u) (sym f) reads) in
      subst (λ p. kept_at l p ≡ Some u) f (kept ∙ ap Some (is ∙ ap units_read (readings_are_one (utf8 text) z r fz yz y) ∙ un.valued))

  module _ (stored : List (List ℕ)) (lines : List Line) (l' : Ledger) (run : Run w m text (made stored) lines l') where
    at_line : (x : Line) (g : Sort) (s : ℕ) → Among x lines → x.call ≡ scan g s → turned_down x.reply ≡ false → Went s x.before x.reply x.after
    at_line x g s i h n = went g s x.before x.reply x.after (scan_step x.before x.call x.reply x.after g s h (line_step w m text lines (made stored) l' x i run)) n

    accepts_is : (x : Line) (g : Sort) (s : ℕ) → Among x lines → x.call ≡ scan g s → turned_down x.reply ≡ false → (k : Kind) (e : ℕ) → ((b : Bool) × Accepts x s k e b) ↔ Derived text s k e
    accepts_is x g s i h n k e =
        let (r, y, f, t, j) = at_line x g s i h n in (
          (λ (b, a).
              let is = same_token (sym t ∙ a.0) in
              let kind : kind_read r ≡ Some k = named_same (kind_read r) (Some k) (ap (λ (z : Token). z.kind) is) in
              let new : k ≡ str → faults_read r ≡ [] = λ q. none_recorded (faults_read r) (nothing_added x.before.faults (recorded (faults_read r)) (sym (ap (λ (z : Ledger). z.faults) j) ∙ a.1 q)) in
              let un : Unfaulted r k e (units_read r) = record { faultless = faultless_by (utf8 text) r k y kind new; of_kind = kind; ends = ap (λ (z : Token). z.end) is; valued = refl } in
              let (d, reads) = (accepts_exactly (utf8 text) r k e (units_read r) y).0 un in
              (d, units_read r, subst (λ z. Derivation (utf8 text) z k e d (units_read r)) f reads)),
          (λ (d, u, reads).
              let un = (accepts_exactly (utf8 text) r k e u y).1 (d, subst (λ z. Derivation (utf8 text) z k e d u) (sym f) reads) in (
                mark_read r,
                (
                  t ∙ (λ j. token (record { start = f j; end = un.ends j; kind = named (un.of_kind j); escaped = mark_read r })),
                  (λ is. ap (λ (z : Ledger). z.faults) j ∙ ap (λ z. x.before.faults ++ recorded z) un.faultless ∙ append-nil _),
                ),
              )),
        )

    -- the reading of an accepted literal
    accepted : (x : Line) (g : Sort) (s : ℕ) → Among x lines → x.call ≡ scan g s → (k : Kind) (e : ℕ) (b : Bool) → Accepts x s k e b → (r : Read) × Reading (utf8 text) r × (r.from ≡ s) × (x.after ≡ added x.before r) × (mark_read r ≡ b) × (kind_read r ≡ Some k)
    accepted x g s i h k e b a =
        let (r, y, f, t, j) = at_line x g s i h (ap turned_down a.0) in
        let is = same_token (sym t ∙ a.0) in
        (r, y, f, j, ap (λ (z : Token). z.escaped) is, named_same (kind_read r) (Some k) (ap (λ (z : Token). z.kind) is))

    verbatim_told : (x : Line) (g : Sort) (s : ℕ) → Among x lines → x.call ≡ scan g s → (k : Kind) (e : ℕ) → Accepts x s k e false → (d : Tree) (u : Option (List ℕ)) → Derivation (utf8 text) s k e d u → Verbatim text d u
    verbatim_told x g s i h k e a d u reads =
        let (r, y, f, j, mark, kind) = accepted x g s i h k e false a in
        verbatim_is text r k e d u y (subst (λ z. Derivation (utf8 text) z k e d u) (sym f) reads) (unmarked_steps r k kind mark)

    -- at every later line the value is kept
    later : (x q : Line) (g : Sort) (s : ℕ) → Then x q lines → x.call ≡ scan g s → (k : Kind) (e : ℕ) → Accepts x s k e true → (d : Tree) (u : Option (List ℕ)) → Derivation (utf8 text) s k e d u → kept_at q.before s ≡ Some u
    later x q g s i h k e a d u reads =
        let (r, y, f, j, mark, kind) = accepted x g s (then_first x q lines i) h k e true a in
        let entry : has_entry q.before r ≡ true =
        kept_then w m text (λ (z : Ledger). has_entry z r ≡ true) (λ l z v p. entry_stays r l z p) lines (made stored) l' x q i run
        (ap (λ (z : Ledger). has_entry z r) j ∙ entry_made x.before r mark) in
        let good : Good text q.before = kept_at_line w m text (Good text) (good_added text) lines (made stored) l' q (then_second x q lines i) run (good_made text stored) in
        let (v, kept) = kept_some q.before r entry in
        let told = kept_told text q.before r.from v good kept in
        kept_is q.before r s k e d u v y f reads kept told

    told_is : (x q : Line) (g : Sort) (s : ℕ) → Then x q lines → x.call ≡ scan g s → (k : Kind) (e : ℕ) → Accepts x s k e true → (d : Tree) (u : Option (List ℕ)) → Derivation (utf8 text) s k e d u → (q.call ≡ value s → q.reply ≡ value_told u) × ((i : ℕ) → q.call ≡ unit s i → q.reply ≡ unit_told u i)
    told_is x q g s i h k e a d u reads =
        let kept = later x q g s i h k e a d u reads in
        let st = line_step w m text lines (made stored) l' q (then_second x q lines i) run in (
          (λ c. (subst (λ (z : Call). Step w m text q.before z q.reply q.after) c st).0 ∙ ap value_asked kept),
          (λ n c. (subst (λ (z : Call). Step w m text q.before z q.reply q.after) c st).0 ∙ ap (λ o. unit_asked o n) kept),
        )

    decided_is :
        (x : Line) (g : Sort) (s : ℕ) → Among x lines → x.call ≡ scan g s → s < length text → opens g (get_or text s 0) ≡ true
        → (r : Read) × Reading (utf8 text) r × (r.from ≡ s) × ((turned_down x.reply ≡ true) ↔ Exceeds w m x.before r) × (turned_down x.reply ≡ false → x.reply ≡ token (token_of r))
    decided_is x g s i h lt right =
        let (r, y, f, o, d) = (scan_step x.before x.call x.reply x.after g s h (line_step w m text lines (made stored) l' x i run)).opened lt right in
        let is = decided_refused (exceeded w m x.before r) r x.before x.reply x.after d in
        let iff = exceeded_is w m x.before r in (
          r,
          y,
          f,
          ((λ t. iff.0 (sym is ∙ t)), (λ t. is ∙ iff.1 t)),
          λ n. (decided_token (exceeded w m x.before r) r x.before x.reply x.after d n).0,
        )

    ones : One l'
    ones = kept_run w m text One (λ l r x o. one_added l r o) lines (made stored) l' run (one_made stored)

    pub lives : Lived w m text stored (map exchange lines) m l'
    lives = record {
      lines = lines;
      exchanged = refl;
      holds = run;
      limits = refl;
      shut = draft_empty w m text lines stored l' run;
      one_string_a_start = one_a_start l'.strings ones.strings;
      one_template_a_start = one_a_start l'.templates ones.templates;
      accepts = accepts_is;
      derived_once = derivations_are_one (utf8 text);
      verbatim = verbatim_told;
      told = told_is;
      none_cooked = none_exactly (utf8 text);
      decided = decided_is;
    }

pub runs_keep : RunsKeep
runs_keep w m text stored lines l run = lives w m text stored lines l run

pub begins : Begins
begins w m text stored = runs_keep w m text stored [] (made stored) refl

pub goes_on : GoesOn
goes_on w m text stored past l c a l' lived step =
    let line : Line = record { before = l; call = c; reply = a; after = l' } in
    subst (λ z. Lived w m text stored z m l') (map_push exchange lived.lines line ∙ ap (λ z. z ++ (says c a ∷ [])) lived.exchanged)
    (runs_keep w m text stored (lived.lines ++ line ∷ []) l' (run_more w m text lived.lines (made stored) l line lived.holds refl step))

-- THE CALLS DECIDE

decided_same : (o : Option ℕ) (r : Read) (l : Ledger) (a a' : Reply) (l₁ l₂ : Ledger) → Decided o r l a l₁ → Decided o r l a' l₂ → (a ≡ a') × (l₁ ≡ l₂)
decided_same (Some n) r l a a' l₁ l₂ d e = (d.0 ∙ sym e.0, d.1 ∙ sym e.1)
decided_same None r l a a' l₁ l₂ d e = (d.0 ∙ sym e.0, d.1 ∙ sym e.1)

module _ (w : List ℕ → ℕ) (m : Limits) (text : List ℕ) where
  scan_same : (g : Sort) (s : ℕ) (l : Ledger) (a a' : Reply) (l₁ l₂ : Ledger) → Scanned w m text g s l a l₁ → Scanned w m text g s l a' l₂ → (a ≡ a') × (l₁ ≡ l₂)
  scan_same g s l a a' l₁ l₂ y z =
      ⊎_elim
      (λ lt. ⊎_elim
      (λ right.
      let (r, x, f, o, d) = y.opened lt right in
      let (r', x', f', o', d') = z.opened lt right in
      decided_same (exceeded w m l r) r l a a' l₁ l₂ d (subst (λ (v : Read). Decided (exceeded w m l v) v l a' l₂) (readings_are_one (utf8 text) r' r (f' ∙ sym f) x' x) d'))
      (λ wrong. let p = y.unopened lt wrong in let q = z.unopened lt wrong in (p.0 ∙ sym q.0, p.1 ∙ sym q.1))
      (cases_Bool (opens g (get_or text s 0))))
      (λ ge. let p = y.outside ge in let q = z.outside ge in (p.0 ∙ sym q.0, p.1 ∙ sym q.1))
      (cases_lt s (length text))

  step_same : (l : Ledger) (c : Call) (a a' : Reply) (l₁ l₂ : Ledger) → Step w m text l c a l₁ → Step w m text l c a' l₂ → (a ≡ a') × (l₁ ≡ l₂)
  step_same l (scan g s) a a' l₁ l₂ y z = scan_same g s l a a' l₁ l₂ y z
  step_same l (value s) a a' l₁ l₂ y z = (y.0 ∙ sym z.0, y.1 ∙ sym z.1)
  step_same l (unit s i) a a' l₁ l₂ y z = (y.0 ∙ sym z.0, y.1 ∙ sym z.1)
  step_same l fault_count a a' l₁ l₂ y z = (y.0 ∙ sym z.0, y.1 ∙ sym z.1)
  step_same l (fault_at i) a a' l₁ l₂ y z = (y.0 ∙ sym z.0, y.1 ∙ sym z.1)

  same_head : {A : Type 0} {a b : A} {xs ys : List A} → a ∷ xs ≡ b ∷ ys → a ≡ b
  same_head e = cc

  same_tail : {A : Type 0} {a b : A} {xs ys : List A} → a ∷ xs ≡ b ∷ ys → xs ≡ ys
  same_tail e = cc

  nil_cons {ℓ} : {A : Type 0} {X : Type ℓ} {a : A} {xs : List A} → [] ≡ a ∷ xs → X
  nil_cons {A} e = absurd (subst is_nil e tt)
    where
      is_nil : List A → Type 0
      is_nil [] = Unit {0}
      is_nil (a ∷ xs) = ⊥

  run_same : (xs ys : List Line) (l k l₁ l₂ : Ledger) → l ≡ k → calls_of (map exchange xs) ≡ calls_of (map exchange ys) → Run w m text l xs l₁ → Run w m text k ys l₂ → (map exchange xs ≡ map exchange ys) × (l₁ ≡ l₂)
  run_same [] [] l k l₁ l₂ e c y z = (refl, sym y ∙ e ∙ z)
  run_same [] (q ∷ ys) l k l₁ l₂ e c y z = nil_cons c
  run_same (x ∷ xs) [] l k l₁ l₂ e c y z = nil_cons (sym c)
  run_same (x ∷ xs) (q ∷ ys) l k l₁ l₂ e c y z =
      let from : q.before ≡ x.before = z.0 ∙ sym e ∙ sym y.0 in
      let call : q.call ≡ x.call = sym (same_head c) in
      let (a, s) = step_same x.before x.call x.reply q.reply x.after q.after y.1 (subst (λ (v : Call). Step w m text x.before v q.reply q.after) call (subst (λ (v : Ledger). Step w m text v q.call q.reply q.after) from z.1)) in
      let (rest, end) = run_same xs ys x.after q.after l₁ l₂ s (same_tail c) y.2 z.2 in
      ((λ j. record { call = sym call j; reply = a j } ∷ rest j), end)

pub calls_decide : CallsDecide
calls_decide w m text stored past past' b b' l l' same a z =
    let (p, q) = run_same w m text a.lines z.lines (made stored) (made stored) l l' refl (ap calls_of a.exchanged ∙ same ∙ sym (ap calls_of z.exchanged)) a.holds z.holds in
    (sym a.exchanged ∙ p ∙ z.exchanged, q)
