-- What the questions reply is what the ledger says. Assumes nothing.
use Rattle.std.proofs.Common.{◌≡◌, ℕ, zero, suc, Bool, true, false, cond, eqb, ltb, List, [], ◌∷◌, length, get_or, Some, None, Ok, Err, Option, Result, sym, refl, ap, ◌∙◌, arith}
use Rattle.std.specs.Option.{ok_or}
use Rattle.std.proofs.lemmas.List.{get_or_past}
use Rattle.std.proofs.lemmas.Bool.{ltb-false, le-ltb, cond-false}
use Rattle.refusals.specs.declared.Refusal.{Refusal}
use Rattle.refusals.specs.declared.Refusal.TheVariants.{IndexPastEnd, NoEntry}
use Rattle.refusals.specs.Numbers.{number_of, numbered}
use Rattle.faults.specs.declared.list.Fault.{Fault}
use Rattle.faults.specs.Records.{faults_of, fault_told}
use Rattle.slots.specs.Entries.{lookup}
use Rattle.slots.specs.Views.{entries_of}
use Rattle.store.specs.Held.{Held, dropped, value_unit_told}
use Rattle.ledger.specs.Calls.{value, unit, fault_count, fault_at, Reply, united, counted, refused}
use Rattle.ledger.specs.Ledger.{number_by, value_numbered, kept_by, value_told, unit_told, value_asked, unit_asked, fault_by}
use Rattle.session.specs.declared.Session.{Session}
use Rattle.session.specs.Replies.{value_by, value_reply, unit_by, unit_reply, fault_reply, value_of}
use Rattle.session.specs.Views.{ledger_of}
use Rattle.session.specs.Calls.{refused_weight, Asks}
use Rattle.session.proofs.Goes.{asks}

-- what the store answers of a value's units

unit_of_cond : (b c : Bool) (u : ℕ) → (b ≡ false → c ≡ false) → unit_by (cond b (cond c (Ok u) (Err 5)) (Err 5)) ≡ cond c (united u) (refused 5)
unit_of_cond true true u f = refl
unit_of_cond true false u f = refl
unit_of_cond false c u f = ap (λ (z : Bool). cond z (united u) (refused 5)) (sym (f refl))

unit_is : (h : Held) (n i : ℕ) → unit_by (value_unit_told h n i) ≡ unit_told (Some (get_or h.values n [])) i
unit_is h n i =
    unit_of_cond (ltb n (length h.values)) (ltb i (length (get_or h.values n []))) (get_or (get_or h.values n []) i 0)
    (λ e. le-ltb i _ (let none : length (get_or h.values n []) ≡ 0 = ap length (get_or_past h.values n [] (ltb-false _ _ e)) in omega arith))

-- replies do not come to put

unit_unput : (b : Bool) (u : ℕ) → refused_weight (cond b (united u) (refused 5)) ≡ false
unit_unput true u = refl
unit_unput false u = refl

fault_unput : (fs : List Fault) (i : ℕ) → refused_weight (fault_by (fault_told fs i)) ≡ false
fault_unput [] i = refl
fault_unput (f ∷ fs) zero = refl
fault_unput (f ∷ fs) (suc i) = fault_unput fs i

-- where none was found, what is refused is what was asked for
pub missing :
    {A B : Type 0} (o : Option A) (d y z : Refusal) (r : Result A Refusal) (q : Result B Refusal) → r ≡ ok_or o d → r ≡ Err y → q ≡ Err z → z ≡ y
    → (o ≡ None) × (q ≡ Err d)
missing None d y z r q e f g i = (refl, cc)
missing (Some v) d y z r q e f g i = absurd cc

module _ (w : List ℕ → ℕ) (x : Session) (h : Held) where
  abbrev number : ℕ → Option (Option ℕ)
  number s = number_by (lookup (entries_of x.strings) s) (lookup (entries_of x.templates) s)

  -- the value question

  value_asks : (s : ℕ) (a : Reply) → a ≡ value_asked (kept_by (ledger_of x (dropped h)) (number s)) → refused_weight a ≡ false → Asks w (value s) x h a
  value_asks s a e f = asks w (value s) x h a (λ text. (e, refl)) f

  pub no_entry : (s : ℕ) (r : Result (Option ℕ) Refusal) → r ≡ Err NoEntry → None ≡ number s → Asks w (value s) x h (value_reply r)
  no_entry s r is q = value_asks s (value_reply r) (ap value_reply is ∙ ap (λ z. value_asked (kept_by (ledger_of x (dropped h)) z)) q) (ap (λ z. refused_weight (value_reply z)) is)

  -- and of any refusal that has its number
  pub no_entry_numbered : (s : ℕ) (e : Refusal) → number_of e ≡ 8 → None ≡ number s → Asks w (value s) x h (value_reply (Err e))
  no_entry_numbered s e is q = value_asks s (refused (number_of e)) (ap refused is ∙ ap (λ z. value_asked (kept_by (ledger_of x (dropped h)) z)) q) (ap (λ (k : ℕ). eqb k 12) is)

  told_of : (o : Option ℕ) → value_by (value_of h.values o) ≡ value_told (value_numbered (ledger_of x (dropped h)) o)
  told_of None = refl
  told_of (Some n) = refl

  unput_of : (v : Option ℕ) → refused_weight (value_by v) ≡ false
  unput_of None = refl
  unput_of (Some n) = refl

  pub an_entry : (s : ℕ) (o v : Option ℕ) → v ≡ value_of h.values o → Some o ≡ number s → Asks w (value s) x h (value_by v)
  an_entry s o v is q = value_asks s (value_by v) (ap value_by is ∙ told_of o ∙ ap (λ z. value_asked (kept_by (ledger_of x (dropped h)) z)) q) (unput_of v)

  -- the unit question

  unit_asks : (s i : ℕ) (a : Reply) → a ≡ unit_asked (kept_by (ledger_of x (dropped h)) (number s)) i → refused_weight a ≡ false → Asks w (unit s i) x h a
  unit_asks s i a e f = asks w (unit s i) x h a (λ text. (e, refl)) f

  pub no_entry_unit : (s i : ℕ) (r : Result ℕ Refusal) → r ≡ Err NoEntry → None ≡ number s → Asks w (unit s i) x h (unit_reply r)
  no_entry_unit s i r is q = unit_asks s i (unit_reply r) (ap unit_reply is ∙ ap (λ z. unit_asked (kept_by (ledger_of x (dropped h)) z) i) q) (ap (λ z. refused_weight (unit_reply z)) is)

  pub no_value_unit : (s i : ℕ) (r : Result ℕ Refusal) → r ≡ Err IndexPastEnd → Some None ≡ number s → Asks w (unit s i) x h (unit_reply r)
  no_value_unit s i r is q =
      unit_asks s i (unit_reply r) (ap unit_reply is ∙ sym (cond-false _ _ _ (le-ltb i 0 (omega arith))) ∙ ap (λ z. unit_asked (kept_by (ledger_of x (dropped h)) z) i) q) (ap (λ z. refused_weight (unit_reply z)) is)

  -- and of any refusal that has the number of these two
  pub no_entry_unit_numbered : (s i : ℕ) (e : Refusal) → number_of e ≡ 8 → None ≡ number s → Asks w (unit s i) x h (unit_reply (Err e))
  no_entry_unit_numbered s i e is q = unit_asks s i (refused (number_of e)) (ap refused is ∙ ap (λ z. unit_asked (kept_by (ledger_of x (dropped h)) z) i) q) (ap (λ (k : ℕ). eqb k 12) is)

  pub no_value_unit_numbered : (s i : ℕ) (e : Refusal) → number_of e ≡ 5 → Some None ≡ number s → Asks w (unit s i) x h (unit_reply (Err e))
  no_value_unit_numbered s i e is q =
      unit_asks s i (refused (number_of e)) (ap refused is ∙ sym (cond-false _ _ _ (le-ltb i 0 (omega arith))) ∙ ap (λ z. unit_asked (kept_by (ledger_of x (dropped h)) z) i) q) (ap (λ (k : ℕ). eqb k 12) is)

  pub a_unit : (s i n : ℕ) (r : Result ℕ Refusal) → numbered r ≡ value_unit_told h n i → Some (Some n) ≡ number s → Asks w (unit s i) x h (unit_reply r)
  a_unit s i n r e q =
      let is : unit_reply r ≡ unit_told (Some (get_or h.values n [])) i = ap unit_by e ∙ unit_is h n i in
      unit_asks s i (unit_reply r) (is ∙ ap (λ z. unit_asked (kept_by (ledger_of x (dropped h)) z) i) q)
      (ap refused_weight is ∙ unit_unput (ltb i (length (get_or h.values n []))) (get_or (get_or h.values n []) i 0))

  -- the fault questions

  pub counted_faults : (n : ℕ) → n ≡ length (faults_of x.faults) → Asks w fault_count x h (counted n)
  counted_faults n e = asks w fault_count x h (counted n) (λ text. (ap counted e, refl)) refl

  pub a_fault : (i : ℕ) (r : Result Fault Refusal) → numbered r ≡ fault_told (faults_of x.faults) i → Asks w (fault_at i) x h (fault_reply r)
  a_fault i r e = asks w (fault_at i) x h (fault_reply r) (λ text. (ap fault_by e, refl)) (ap (λ z. refused_weight (fault_by z)) e ∙ fault_unput (faults_of x.faults) i)
