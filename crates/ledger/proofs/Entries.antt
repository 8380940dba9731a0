-- Every entry of a run's ledger tells the value of the literal read at its start, and an escaped literal once scanned keeps its entry. Assumes nothing.
use Rattle.std.proofs.Common.{◌≡◌, ℕ, ◌<◌, Bool, true, false, cond, not, ◌&&◌, eqb, ◌⊎◌, List, [], ◌∷◌, ◌++◌, length, get_or, is_some as option_is_some, Some, None, Option, sym, refl, ap, ◌∙◌, subst, ap₂, inl, inr, ⊎_elim, append-nil, arith}
use Rattle.std.proofs.lemmas.List.{get_or_append_left, get_or_at, length-append}
use Rattle.std.proofs.lemmas.Bool.{cases_Bool, cond-true, cond-false, eqb-true, eq-eqb}
use Rattle.grammar.specs.Utf8.{utf8}
use Rattle.grammar.specs.Reading.{Read, Reading}
use Rattle.grammar.specs.Outcome.{mark_read, units_read}
use Rattle.slots.specs.Entries.{lookup, distinct}
use Rattle.slots.proofs.Distincts.{distinct_added}
use Rattle.ledger.specs.Ledger.{Ledger, made, in_strings, has_entry, needs_entry, needs_value, units, next_number, added, value_numbered, number_by, kept_by, kept_at}
use Rattle.ledger.proofs.Values.{some_none, some_same, true_false, string_cooked}

-- ENTRIES, one more of them

module _ {V : Type 0} where
  -- an entry stays
  pub keep : (es fs : List (ℕ × V)) (s : ℕ) (v : V) → lookup es s ≡ Some v → lookup (es ++ fs) s ≡ Some v
  keep [] fs s v e = some_none (sym e)
  keep (x ∷ es) fs s v e =
      ⊎_elim
      (λ t. cond-true _ _ _ t ∙ sym (cond-true (eqb x.0 s) (Some x.1) (lookup es s) t) ∙ e)
      (λ f. cond-false _ _ _ f ∙ keep es fs s v (sym (cond-false (eqb x.0 s) (Some x.1) (lookup es s) f) ∙ e))
      (cases_Bool (eqb x.0 s))

  -- where there was none, the added one is found
  pub new : (es : List (ℕ × V)) (s : ℕ) (v : V) → option_is_some (lookup es s) ≡ false → lookup (es ++ ((s, v) ∷ [])) s ≡ Some v
  new [] s v e = cond-true _ _ _ (eq-eqb s s refl)
  new (x ∷ es) s v e =
      ⊎_elim
      (λ t. true_false (sym (ap option_is_some (cond-true (eqb x.0 s) (Some x.1) (lookup es s) t)) ∙ e))
      (λ f. cond-false _ _ _ f ∙ new es s v (sym (ap option_is_some (cond-false (eqb x.0 s) (Some x.1) (lookup es s) f)) ∙ e))
      (cases_Bool (eqb x.0 s))

  -- an entry is an old one or the added one
  either : (es : List (ℕ × V)) (x : ℕ × V) (s : ℕ) (v : V) → lookup (es ++ (x ∷ [])) s ≡ Some v → (lookup es s ≡ Some v) ⊎ ((x.0 ≡ s) × (x.1 ≡ v))
  either [] x s v e =
      ⊎_elim
      (λ t. inr (eqb-true _ _ t, some_same (sym (cond-true (eqb x.0 s) (Some x.1) None t) ∙ e)))
      (λ f. some_none (sym (sym (cond-false (eqb x.0 s) (Some x.1) None f) ∙ e)))
      (cases_Bool (eqb x.0 s))
  either (y ∷ es) x s v e =
      ⊎_elim
      (λ t. inl (cond-true _ _ _ t ∙ sym (cond-true (eqb y.0 s) (Some y.1) (lookup (es ++ (x ∷ [])) s) t) ∙ e))
      (λ f. ⊎_elim (λ old. inl (cond-false _ _ _ f ∙ old)) (λ fresh. inr fresh) (either es x s v (sym (cond-false (eqb y.0 s) (Some y.1) (lookup (es ++ (x ∷ [])) s) f) ∙ e)))
      (cases_Bool (eqb y.0 s))

  added_entry : (b : Bool) (es : List (ℕ × V)) (x : ℕ × V) (s : ℕ) (v : V) → lookup (es ++ cond b (x ∷ []) []) s ≡ Some v → (lookup es s ≡ Some v) ⊎ ((b ≡ true) × (x.0 ≡ s) × (x.1 ≡ v))
  added_entry true es x s v e = ⊎_elim inl (λ p. inr (refl, p.0, p.1)) (either es x s v e)
  added_entry false es x s v e = inl (ap (λ z. lookup z s) (sym (append-nil es)) ∙ e)

  is_some : (o : Option V) → option_is_some o ≡ true → (v : V) × (o ≡ Some v)
  is_some None e = true_false (sym e)
  is_some (Some v) e = (v, refl)

  grown : (es fs : List (ℕ × V)) (s : ℕ) → option_is_some (lookup es s) ≡ true → option_is_some (lookup (es ++ fs) s) ≡ true
  grown es fs s h = let (v, e) = is_some (lookup es s) h in ap option_is_some (keep es fs s v e)

  -- no start has two entries, given that what is added had none
  pub still_distinct : (b : Bool) (es : List (ℕ × V)) (s : ℕ) (v : V) → distinct es ≡ true → (b ≡ true → option_is_some (lookup es s) ≡ false) → distinct (es ++ cond b ((s, v) ∷ []) []) ≡ true
  still_distinct false es s v d h = ap distinct (append-nil es) ∙ d
  still_distinct true es s v d h = distinct_added es s v d (h refl)

pub and_true : (a b : Bool) → (a && b) ≡ true → (a ≡ true) × (b ≡ true)
and_true true b e = (refl, e)
and_true false b e = true_false (sym e)

pub and_both : (a b : Bool) → a ≡ true → b ≡ true → (a && b) ≡ true
and_both a b p q = ap₂ ◌&&◌ p q

pub not_true : (a : Bool) → not a ≡ true → a ≡ false
not_true true e = true_false (sym e)
not_true false e = refl

-- AT MOST ONE ENTRY A START

pub record One (l : Ledger) : Type 0 where
  pub strings : distinct l.strings ≡ true
  pub templates : distinct l.templates ≡ true

pub one_made : (vs : List (List ℕ)) → One (made vs)
one_made vs = record { strings = refl; templates = refl }

-- a literal that needs an entry has none in its table
pub none_there : (l : Ledger) (r : Read) → (needs_entry l r && in_strings r) ≡ true → option_is_some (lookup l.strings r.from) ≡ false
none_there l r h =
    let (n, s) = and_true (needs_entry l r) (in_strings r) h in
    sym (cond-true (in_strings r) _ _ s) ∙ not_true _ (and_true (mark_read r) (not (has_entry l r)) n).1

pub no_template_there : (l : Ledger) (r : Read) → (needs_entry l r && not (in_strings r)) ≡ true → option_is_some (lookup l.templates r.from) ≡ false
no_template_there l r h =
    let (n, s) = and_true (needs_entry l r) (not (in_strings r)) h in
    sym (cond-false (in_strings r) _ _ (not_true _ s)) ∙ not_true _ (and_true (mark_read r) (not (has_entry l r)) n).1

pub one_added : (l : Ledger) (r : Read) → One l → One (added l r)
one_added l r o = record {
  strings = still_distinct (needs_entry l r && in_strings r) l.strings r.from (length l.values) o.strings (none_there l r);
  templates = still_distinct (needs_entry l r && not (in_strings r)) l.templates r.from (next_number l (units_read r)) o.templates (no_template_there l r);
}

module _ (text : List ℕ) where
  -- the number is that of a value, and the value is what the literal at s tells
  abbrev pub Right : List (List ℕ) → ℕ → Option ℕ → Type 0
  Right vs s None = (r : Read) × Reading (utf8 text) r × (r.from ≡ s) × (None ≡ units_read r)
  Right vs s (Some n) = (r : Read) × Reading (utf8 text) r × (r.from ≡ s) × (Some (get_or vs n []) ≡ units_read r) × (n < length vs)

  right_more : (vs ws : List (List ℕ)) (s : ℕ) (o : Option ℕ) → Right vs s o → Right (vs ++ ws) s o
  right_more vs ws s None h = h
  right_more vs ws s (Some n) (r, x, f, v, b) =
      let len = length-append vs ws in
      (r, x, f, ap Some (get_or_append_left vs ws [] n b) ∙ v, omega arith)

  pub record Good (l : Ledger) : Type 0 where
    pub strings : (s n : ℕ) → lookup l.strings s ≡ Some n → Right l.values s (Some n)
    pub templates : (s : ℕ) (o : Option ℕ) → lookup l.templates s ≡ Some o → Right l.values s o

  pub good_made : (vs : List (List ℕ)) → Good (made vs)
  good_made vs = record { strings = λ s n e. some_none (sym e); templates = λ s o e. some_none (sym e) }

  -- the value added is the last
  last_value : (l : Ledger) (r : Read) (us : List ℕ) → Reading (utf8 text) r → needs_entry l r ≡ true → units_read r ≡ Some us → Right (added l r).values r.from (Some (length l.values))
  last_value l r us x needs is =
      let wants : needs_value l r ≡ true = and_both _ _ needs (ap option_is_some is) in
      let vs : (added l r).values ≡ l.values ++ (us ∷ []) = ap (λ z. l.values ++ z) (cond-true _ _ _ wants ∙ ap (λ z. units z ∷ []) is) in
      let len = length-append l.values (us ∷ []) in
      subst (λ z. Right z r.from (Some (length l.values))) (sym vs)
      (r, x, refl, ap Some (get_or_at l.values us [] [] (length l.values) refl) ∙ sym is, omega arith)

  next_right : (l : Ledger) (r : Read) (v : Option (List ℕ)) → Reading (utf8 text) r → needs_entry l r ≡ true → units_read r ≡ v → Right (added l r).values r.from (next_number l v)
  next_right l r None x needs is = (r, x, refl, sym is)
  next_right l r (Some us) x needs is = last_value l r us x needs is

  pub good_added : (l : Ledger) (r : Read) → Reading (utf8 text) r → Good l → Good (added l r)
  good_added l r x g = record {
    strings = λ s n e.
        ⊎_elim
        (λ old. right_more l.values _ s (Some n) (g.strings s n old))
        (λ (b, at, is).
        let (needs, str) = and_true _ _ b in
        let (us, u) = string_cooked (utf8 text) r x str in
        subst (λ z. Right (added l r).values z (Some n)) at (subst (λ k. Right (added l r).values r.from (Some k)) is (last_value l r us x needs u)))
        (added_entry (needs_entry l r && in_strings r) l.strings _ s n e);
    templates = λ s o e.
        ⊎_elim
        (λ old. right_more l.values _ s o (g.templates s o old))
        (λ (b, at, is).
        let (needs, tmp) = and_true _ _ b in
        subst (λ z. Right (added l r).values z o) at (subst (λ k. Right (added l r).values r.from k) is (next_right l r (units_read r) x needs refl)))
        (added_entry (needs_entry l r && not (in_strings r)) l.templates _ s o e);
  }

  -- what is kept at a start is what the literal there tells
  numbered_right : (l : Ledger) (s : ℕ) (o : Option ℕ) → Right l.values s o → (r : Read) × Reading (utf8 text) r × (r.from ≡ s) × (value_numbered l o ≡ units_read r)
  numbered_right l s None h = h
  numbered_right l s (Some n) (r, x, f, v, b) = (r, x, f, v)

  kept_right : (l : Ledger) (s : ℕ) (p : Option ℕ) (q : Option (Option ℕ)) (v : Option (List ℕ)) → Good l → lookup l.strings s ≡ p → lookup l.templates s ≡ q → kept_by l (number_by p q) ≡ Some v → (r : Read) × Reading (utf8 text) r × (r.from ≡ s) × (v ≡ units_read r)
  kept_right l s (Some n) q v g ep eq h = let (r, x, f, u) = numbered_right l s (Some n) (g.strings s n ep) in (r, x, f, sym (some_same h) ∙ u)
  kept_right l s None None v g ep eq h = some_none (sym h)
  kept_right l s None (Some o) v g ep eq h = let (r, x, f, u) = numbered_right l s o (g.templates s o eq) in (r, x, f, sym (some_same h) ∙ u)

  pub kept_told : (l : Ledger) (s : ℕ) (v : Option (List ℕ)) → Good l → kept_at l s ≡ Some v → (r : Read) × Reading (utf8 text) r × (r.from ≡ s) × (v ≡ units_read r)
  kept_told l s v g h = kept_right l s (lookup l.strings s) (lookup l.templates s) v g refl refl h

-- AN ESCAPED LITERAL ONCE SCANNED KEEPS ITS ENTRY

cond_map : (b p q p' q' : Bool) → (p ≡ true → p' ≡ true) → (q ≡ true → q' ≡ true) → cond b p q ≡ true → cond b p' q' ≡ true
cond_map true p q p' q' f g h = f h
cond_map false p q p' q' f g h = g h

pub entry_stays : (r : Read) (l : Ledger) (z : Read) → has_entry l r ≡ true → has_entry (added l z) r ≡ true
entry_stays r l z h =
    cond_map (in_strings r) (option_is_some (lookup l.strings r.from)) (option_is_some (lookup l.templates r.from)) _ _
    (grown l.strings _ r.from) (grown l.templates _ r.from) h

entered : (l : Ledger) (r : Read) → (b : Bool) → in_strings r ≡ b → needs_entry l r ≡ true → has_entry l r ≡ false → has_entry (added l r) r ≡ true
entered l r true is needs hasnt =
    let none : option_is_some (lookup l.strings r.from) ≡ false = sym (cond-true _ _ _ is) ∙ hasnt in
    let es : (added l r).strings ≡ l.strings ++ ((r.from, length l.values) ∷ []) = ap (λ z. l.strings ++ z) (cond-true _ _ _ (and_both _ _ needs is)) in
    cond-true _ _ _ is ∙ ap (λ z. option_is_some (lookup z r.from)) es ∙ ap option_is_some (new l.strings r.from (length l.values) none)
entered l r false is needs hasnt =
    let none : option_is_some (lookup l.templates r.from) ≡ false = sym (cond-false _ _ _ is) ∙ hasnt in
    let es : (added l r).templates ≡ l.templates ++ ((r.from, next_number l (units_read r)) ∷ []) = ap (λ z. l.templates ++ z) (cond-true _ _ _ (and_both _ _ needs (ap not is))) in
    cond-false _ _ _ is ∙ ap (λ z. option_is_some (lookup z r.from)) es ∙ ap option_is_some (new l.templates r.from (next_number l (units_read r)) none)

pub entry_made : (l : Ledger) (r : Read) → mark_read r ≡ true → has_entry (added l r) r ≡ true
entry_made l r h =
    ⊎_elim
    (λ has. entry_stays r l r has)
    (λ hasnt. entered l r (in_strings r) refl (and_both _ _ h (ap not hasnt)) hasnt)
    (cases_Bool (has_entry l r))

kept_some_by : (l : Ledger) (b : Bool) (p : Option ℕ) (q : Option (Option ℕ)) → cond b (option_is_some p) (option_is_some q) ≡ true → (v : Option (List ℕ)) × (kept_by l (number_by p q) ≡ Some v)
kept_some_by l b (Some n) q h = (_, refl)
kept_some_by l true None q h = true_false (sym h)
kept_some_by l false None None h = true_false (sym h)
kept_some_by l false None (Some o) h = (_, refl)

pub kept_some : (l : Ledger) (r : Read) → has_entry l r ≡ true → (v : Option (List ℕ)) × (kept_at l r.from ≡ Some v)
kept_some l r h = kept_some_by l (in_strings r) (lookup l.strings r.from) (lookup l.templates r.from) h
