-- A life played out: each call's reply and ledger are found by trying, with the proof that they are the step's. Assumes nothing.
use Rattle.std.proofs.Common.{◌≡◌, ℕ, ◌<◌, ◌≤◌, Bool, true, false, cond, eqb, ltb, List, [], ◌∷◌, length, get_or, Some, None, Option, sym, refl, ◌∙◌, arith}
use Rattle.std.proofs.lemmas.Bool.{eqb-true, ltb-true, ltb-false}
use Rattle.grammar.specs.Utf8.{utf8}
use Rattle.grammar.specs.Reading.{Scan, double_scan, single_scan, template_scan, Read, Reading}
use Rattle.grammar.specs.Reading as reading
use Rattle.grammar.proofs.Finder.{find}
use Rattle.ledger.specs.Calls.{Sort, string, template, resumption, Call, scan, value, unit, fault_count, fault_at, Reply, token, counted, refused}
use Rattle.ledger.specs.Ledger.{Limits, Ledger, sort_of, opens, token_of, added, exceeded, Decided, Scanned, value_asked, unit_asked, fault_asked, kept_at, Step}
use Rattle.ledger.specs.Life.{Line, Run}
use Rattle.ledger.proofs.Values.{true_false}

abbrev scan_for : Sort → ℕ → Scan
scan_for string b = cond (eqb b 34) double_scan single_scan
scan_for template b = template_scan
scan_for resumption b = reading.resumption

abbrev same_sort : (g k : Sort) → Option (g ≡ k)
same_sort string string = Some refl
same_sort template template = Some refl
same_sort resumption resumption = Some refl
same_sort string template = None
same_sort string resumption = None
same_sort template string = None
same_sort template resumption = None
same_sort resumption string = None
same_sort resumption template = None

module _ (w : List ℕ → ℕ) (m : Limits) (text : List ℕ) where
  abbrev Played : Ledger → Call → Type 0
  Played l c = (a : Reply) × (l' : Ledger) × Step w m text l c a l'

  module _ (k : Sort) (s : ℕ) (l : Ledger) where
    pub outside_so : length text ≤ s → Scanned w m text k s l (refused 3) l
    outside_so ge = record { outside = λ h. (refl, refl); unopened = λ lt n. absurd (omega arith); opened = λ lt is. absurd (omega arith) }

    pub unopened_so : s < length text → opens k (get_or text s 0) ≡ false → Scanned w m text k s l (refused 4) l
    unopened_so lt other = record { outside = λ ge. absurd (omega arith); unopened = λ h n. (refl, refl); opened = λ h is. true_false (sym is ∙ other) }

    pub opened_so :
        s < length text → opens k (get_or text s 0) ≡ true → (r : Read) → Reading (utf8 text) r → r.from ≡ s → sort_of r.scan ≡ k
        → (a : Reply) (l' : Ledger) → Decided (exceeded w m l r) r l a l' → Scanned w m text k s l a l'
    opened_so lt is r x f g a l' d = record { outside = λ ge. absurd (omega arith); unopened = λ h no. true_false (sym is ∙ no); opened = λ h o. (r, x, f, g, d) }

    module _ (r : Read) where
      abbrev Chosen : Option ℕ → Type 0
      Chosen o = (a : Reply) × (l' : Ledger) × Decided o r l a l'

      abbrev chosen : (o : Option ℕ) → Chosen o
      chosen (Some n) = (refused n, l, (refl, refl))
      chosen None = (token (token_of r), added l r, (refl, refl))

    abbrev scans : Option (Played l (scan k s))
    scans = inside (ltb s (length text)) refl
      where
        fitted : s < length text → opens k (get_or text s 0) ≡ true → (r : Read) → Reading (utf8 text) r → r.from ≡ s → Option (sort_of r.scan ≡ k) → Option (Played l (scan k s))
        fitted lt is r x f None = None
        fitted lt is r x f (Some g) = let c = chosen r (exceeded w m l r) in Some (c.0, c.1, opened_so lt is r x f g c.0 c.1 c.2)

        placed : s < length text → opens k (get_or text s 0) ≡ true → (r : Read) → Reading (utf8 text) r → (b : Bool) → eqb r.from s ≡ b → Option (Played l (scan k s))
        placed lt is r x false e = None
        placed lt is r x true e = fitted lt is r x (eqb-true r.from s e) (same_sort (sort_of r.scan) k)

        read : s < length text → opens k (get_or text s 0) ≡ true → Option ((r : Read) × Reading (utf8 text) r) → Option (Played l (scan k s))
        read lt is None = None
        read lt is (Some (r, x)) = placed lt is r x (eqb r.from s) refl

        opening : s < length text → (b : Bool) → opens k (get_or text s 0) ≡ b → Option (Played l (scan k s))
        opening lt false e = Some (refused 4, l, unopened_so lt e)
        opening lt true e = read lt e (find (utf8 text) 40 (scan_for k (get_or text s 0)) s)

        inside : (b : Bool) → ltb s (length text) ≡ b → Option (Played l (scan k s))
        inside false e = Some (refused 3, l, outside_so (ltb-false s (length text) e))
        inside true e = opening (ltb-true s (length text) e) (opens k (get_or text s 0)) refl

  abbrev plays : (l : Ledger) (c : Call) → Option (Played l c)
  plays l (scan k s) = scans k s l
  plays l (value s) = Some (value_asked (kept_at l s), l, (refl, refl))
  plays l (unit s i) = Some (unit_asked (kept_at l s) i, l, (refl, refl))
  plays l fault_count = Some (counted (length l.faults), l, (refl, refl))
  plays l (fault_at i) = Some (fault_asked l.faults i, l, (refl, refl))

  abbrev pub Life : Ledger → Type 0
  Life l = (lines : List Line) × (l' : Ledger) × Run w m text l lines l'

  abbrev pub play : (l : Ledger) → List Call → Option (Life l)
  play l [] = Some ([], l, refl)
  play l (c ∷ cs) = on (plays l c) (λ l'. play l' cs)
    where
      more : (a : Reply) (l' : Ledger) → Step w m text l c a l' → Option (Life l') → Option (Life l)
      more a l' s None = None
      more a l' s (Some (xs, l'', run)) = Some (record { before = l; call = c; reply = a; after = l' } ∷ xs, l'', (refl, s, run))

      on : Option (Played l c) → ((l' : Ledger) → Option (Life l')) → Option (Life l)
      on None f = None
      on (Some (a, l', s)) f = more a l' s (f l')
