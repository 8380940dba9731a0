-- A call of a session goes on with every life. Assumes nothing.
use Rattle.std.proofs.Common.{◌≡◌, ℕ, Bool, true, false, cond, ◌||◌, ltb, List, [], ◌∷◌, ◌++◌, length, Option, sym, refl, ap, ◌∙◌, subst, arith}
use Rattle.std.proofs.lemmas.Bool.{le-ltb}
use Rattle.faults.specs.declared.list.Fault.{Fault}
use Rattle.faults.specs.Records.{faults_of, records_of}
use Rattle.slots.specs.declared.map.Slot.{Slot}
use Rattle.slots.specs.Views.{entries_of, slots_of}
use Rattle.store.specs.Held.{Held, dropped}
use Rattle.ledger.specs.Calls.{Call, Reply, says}
use Rattle.ledger.specs.Ledger.{Limits, Ledger, made, Step}
use Rattle.ledger.specs.Life.{Lived}
use Rattle.ledger.proofs.Lives as ledger
use Rattle.session.specs.declared.Session.{Session}
use Rattle.session.specs.Views.{lent, limits_of, ledger_of, Memory, memory_of}
use Rattle.session.specs.Calls.{Lives, refused_weight, came_to_put, Called, Plays, GoesOn, Asks}

emptied : (b : Bool) (d d' : List ℕ) → d' ≡ cond b [] d → d ≡ [] → d' ≡ []
emptied true d d' e f = e
emptied false d d' e f = e ∙ f

still : (x : Session) (h : Held) → h.draft ≡ [] → ledger_of x (dropped h) ≡ ledger_of x h
still x h e j = record { values = h.values; draft = sym e j; faults = faults_of x.faults; strings = entries_of x.strings; templates = entries_of x.templates }

pub goes_on : GoesOn
goes_on w text c x h a x' h' called m stored past lived =
    let before : ledger_of x (dropped h) ≡ ledger_of x h = still x h lived.shut in
    let after : ledger_of x' (dropped h') ≡ ledger_of x' h' = still x' h' (emptied (came_to_put a h h') h.draft h'.draft called.left_open lived.shut) in
    let step : Step w m text (ledger_of x h) c a (ledger_of x' h') =
    subst (λ (z : Ledger). Step w m text (ledger_of x h) c a z) after
    (subst (λ (z : Ledger). Step w m text z c a (ledger_of x' (dropped h'))) before
    (subst (λ (z : Limits). Step w z text (ledger_of x (dropped h)) c a (ledger_of x' (dropped h'))) lived.limits called.step)) in
    subst (λ (z : Limits). Lived w m text stored (past ++ (says c a ∷ [])) z (ledger_of x' h')) (sym (called.limits ∙ lived.limits))
    (ledger.goes_on w m text stored past (ledger_of x h) c a (ledger_of x' h') (subst (λ (z : Limits). Lived w m text stored past z (ledger_of x h)) lived.limits lived) step)

pub plays : (w : List ℕ → ℕ) (text : List ℕ) (c : Call) (x : Session) (h : Held) (a : Reply) (x' : Session) (h' : Held) → Called w text c x h a x' h' → Plays w text c x h a x' h'
plays w text c x h a x' h' called = record { called = called; lives = goes_on w text c x h a x' h' called }

pub same_length : (n : ℕ) → ltb n n ≡ false
same_length n = le-ltb n n (omega arith)

-- a call that leaves session and store as they are, and came to put no unit
pub unaltered :
    (w : List ℕ → ℕ) (text : List ℕ) (c : Call) (x : Session) (h : Held) (a : Reply) → Step w (limits_of x h) text (ledger_of x (dropped h)) c a (ledger_of x (dropped h)) → refused_weight a ≡ false
    → Called w text c x h a x h
unaltered w text c x h a step light =
    let unput : came_to_put a h h ≡ false = ap (λ (b : Bool). b || ltb (length h.values) (length h.values)) light ∙ same_length (length h.values) in
    record { step = step; limits = refl; left_open = ap (λ (b : Bool). cond b [] h.draft) (sym unput); strings_kept = λ e. refl; templates_kept = λ e. refl; records_kept = λ e. refl; beyond = refl }

-- a question that replies what the ledger says
pub asks : (w : List ℕ → ℕ) (c : Call) (x : Session) (h : Held) (a : Reply) → ((text : List ℕ) → Step w (limits_of x h) text (ledger_of x (dropped h)) c a (ledger_of x (dropped h))) → refused_weight a ≡ false → Asks w c x h a
asks w c x h a step light =
    let so : (text : List ℕ) → Called w text c x h a x h = λ text. unaltered w text c x h a (step text) light in
    record { called = so; lives = λ text. goes_on w text c x h a x h (so text) }

-- the making

pub memory_is :
    (x : Session) (a : List (Slot ℕ)) (b : List (Slot (Option ℕ))) (f : List Fault) → slots_of x.strings ≡ a → slots_of x.templates ≡ b → records_of x.faults ≡ f
    → memory_of x ≡ record { strings = a; templates = b; records = f }
memory_is x a b f p q r j = record { strings = p j; templates = q j; records = r j }

limits_by : Memory → Held → Limits
limits_by m h = lent (length m.strings) (length m.templates) (length m.records) h

pub makes :
    (w : List ℕ → ℕ) (x : Session) (h h' : Held) (a : List (Slot ℕ)) (b : List (Slot (Option ℕ))) (f : List Fault) → h' ≡ dropped h → memory_of x ≡ record { strings = a; templates = b; records = f }
    → faults_of x.faults ≡ [] → entries_of x.strings ≡ [] → entries_of x.templates ≡ []
    → (text : List ℕ) → Lives w (lent (length a) (length b) (length f) h) text h.values [] x h'
unfolding limits_by
makes w x h h' a b f e memory ef es et text =
    let m : Limits = lent (length a) (length b) (length f) h in
    let limits : limits_of x (dropped h) ≡ m = ap (λ (z : Memory). limits_by z h) memory in
    let led : ledger_of x (dropped h) ≡ made h.values = λ j. record { values = h.values; draft = []; faults = ef j; strings = es j; templates = et j } in
    subst (λ (z : Held). Lives w m text h.values [] x z) (sym e)
    (subst (λ (z : Limits). Lived w m text h.values [] z (ledger_of x (dropped h))) (sym limits)
    (subst (λ (z : Ledger). Lived w m text h.values [] m z) (sym led) (ledger.begins w m text h.values)))
