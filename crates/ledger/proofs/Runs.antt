-- Runs of the ledger: one call more, and what every ledger of a run keeps. Assumes nothing.
use Rattle.std.proofs.Common.{◌≡◌, ℕ, ◌⊎◌, List, [], ◌∷◌, ◌++◌, length, get_or, Some, None, Option, sym, refl, ◌∙◌, subst, inl, inr, ⊎_elim}
use Rattle.std.proofs.lemmas.Bool.{cases_Bool, cases_lt}
use Rattle.grammar.specs.Utf8.{utf8}
use Rattle.grammar.specs.Reading.{Read, Reading}
use Rattle.ledger.specs.Calls.{Sort, Call, scan, value, unit, fault_count, fault_at, Reply}
use Rattle.ledger.specs.Ledger.{Limits, Ledger, made, added, exceeded, Decided, Scanned, opens, Step}
use Rattle.ledger.specs.Life.{Line, Run, Among, Then}

module _ (w : List ℕ → ℕ) (m : Limits) (text : List ℕ) where
  -- what a step leaves: the same ledger, or that of a reading
  Left : Ledger → Ledger → Type 0
  Left l l' = (l' ≡ l) ⊎ ((r : Read) × Reading (utf8 text) r × (l' ≡ added l r))

  decided_left : (o : Option ℕ) (r : Read) (l : Ledger) (a : Reply) (l' : Ledger) → Reading (utf8 text) r → Decided o r l a l' → Left l l'
  unfolding Left
  decided_left (Some n) r l a l' x d = inl d.1
  decided_left None r l a l' x d = inr (r, x, d.1)

  scan_left : (k : Sort) (s : ℕ) (l : Ledger) (a : Reply) (l' : Ledger) → Scanned w m text k s l a l' → Left l l'
  unfolding Left
  scan_left k s l a l' z =
      ⊎_elim
      (λ lt. ⊎_elim
      (λ yes. let (r, x, f, g, d) = z.opened lt yes in decided_left (exceeded w m l r) r l a l' x d)
      (λ no. inl (z.unopened lt no).1)
      (cases_Bool (opens k (get_or text s 0))))
      (λ ge. inl (z.outside ge).1)
      (cases_lt s (length text))

  step_left : (l : Ledger) (c : Call) (a : Reply) (l' : Ledger) → Step w m text l c a l' → Left l l'
  unfolding Left
  step_left l (scan k s) a l' z = scan_left k s l a l' z
  step_left l (value s) a l' z = inl z.1
  step_left l (unit s i) a l' z = inl z.1
  step_left l fault_count a l' z = inl z.1
  step_left l (fault_at i) a l' z = inl z.1

  -- a fact that every scan's addition keeps is kept by every run, at each of its lines
  module _ (P : Ledger → Type 0) (keeps : (l : Ledger) (r : Read) → Reading (utf8 text) r → P l → P (added l r)) where
    kept_step : (l : Ledger) (c : Call) (a : Reply) (l' : Ledger) → Step w m text l c a l' → P l → P l'
    unfolding Left
    kept_step l c a l' z p = ⊎_elim (λ e. subst P (sym e) p) (λ (r, x, e). subst P (sym e) (keeps l r x p)) (step_left l c a l' z)

    pub kept_run : (xs : List Line) (l l' : Ledger) → Run w m text l xs l' → P l → P l'
    kept_run [] l l' z p = subst P z p
    kept_run (x ∷ xs) l l' z p = kept_run xs x.after l' z.2 (kept_step x.before x.call x.reply x.after z.1 (subst P (sym z.0) p))

    pub kept_at_line : (xs : List Line) (l l' : Ledger) (q : Line) → Among q xs → Run w m text l xs l' → P l → P q.before
    kept_at_line [] l l' q i z p = absurd i
    kept_at_line (x ∷ xs) l l' q (inl e) z p = subst (λ (y : Line). P y.before) e (subst P (sym z.0) p)
    kept_at_line (x ∷ xs) l l' q (inr i) z p = kept_at_line xs x.after l' q i z.2 (kept_step x.before x.call x.reply x.after z.1 (subst P (sym z.0) p))

    -- a fact of the ledger behind a line still holds before every later line
    pub kept_then : (xs : List Line) (l l' : Ledger) (x q : Line) → Then x q xs → Run w m text l xs l' → P x.after → P q.before
    kept_then [] l l' x q i z p = absurd i
    kept_then (y ∷ ys) l l' x q (inl i) z p = kept_at_line ys y.after l' q i.1 z.2 (subst (λ (v : Line). P v.after) (sym i.0) p)
    kept_then (y ∷ ys) l l' x q (inr i) z p = kept_then ys y.after l' x q i z.2 p

  -- each line of a run is a step
  pub line_step : (xs : List Line) (l l' : Ledger) (x : Line) → Among x xs → Run w m text l xs l' → Step w m text x.before x.call x.reply x.after
  line_step [] l l' x i z = absurd i
  line_step (y ∷ ys) l l' x (inl e) z = subst (λ (v : Line). Step w m text v.before v.call v.reply v.after) e z.1
  line_step (y ∷ ys) l l' x (inr i) z = line_step ys y.after l' x i z.2

  -- one line more
  pub run_more : (xs : List Line) (l l' : Ledger) (x : Line) → Run w m text l xs l' → x.before ≡ l' → Step w m text x.before x.call x.reply x.after → Run w m text l (xs ++ x ∷ []) x.after
  run_more [] l l' x z e s = (e ∙ sym z, s, refl)
  run_more (y ∷ ys) l l' x z e s = (z.0, z.1, run_more ys y.after l' x z.2 e s)

  -- the open value stays empty
  pub draft_empty : (xs : List Line) (vs : List (List ℕ)) (l : Ledger) → Run w m text (made vs) xs l → l.draft ≡ []
  draft_empty xs vs l z = kept_run (λ (k : Ledger). k.draft ≡ []) (λ k r x p. p) xs (made vs) l z refl

pub then_first : {A : Type 0} (x q : A) (xs : List A) → Then x q xs → Among x xs
then_first x q [] i = absurd i
then_first x q (y ∷ ys) (inl i) = inl i.0
then_first x q (y ∷ ys) (inr i) = inr (then_first x q ys i)

pub then_second : {A : Type 0} (x q : A) (xs : List A) → Then x q xs → Among q xs
then_second x q [] i = absurd i
then_second x q (y ∷ ys) (inl i) = inr i.1
then_second x q (y ∷ ys) (inr i) = inr (then_second x q ys i)
