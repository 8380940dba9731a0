-- What every call of a session promises. Assumes nothing.
use Rattle.std.specs.Prelude.{◌≡◌, ℕ, Bool, false, cond, ◌||◌, List, [], ◌∷◌, ◌++◌, length, ◌==◌, nat_lt}
use Rattle.faults.specs.Records.{faults_of, records_of}
use Rattle.slots.specs.Views.{entries_of, slots_of}
use Rattle.store.specs.Held.{Held, dropped}
use Rattle.ledger.specs.Calls.{Call, Reply, token, valued, united, counted, faulted, refused, Exchange, says}
use Rattle.ledger.specs.Ledger.{Limits, Step}
use Rattle.ledger.specs.Life.{Lived}
use Rattle.session.specs.declared.Session.{Session}
use Rattle.session.specs.Views.{limits_of, ledger_of, memory_of, unused}

-- the law of what a session and a store hold
abbrev pub Lives : (List ℕ → ℕ) → Limits → List ℕ → List (List ℕ) → List Exchange → Session → Held → Type 0
Lives w m text stored past x h = Lived w m text stored past (limits_of x h) (ledger_of x h)

-- a scan came to put units: it was refused with 12, or there is one finished value more
abbrev pub refused_weight : Reply → Bool
refused_weight (token t) = false
refused_weight (valued c n) = false
refused_weight (united u) = false
refused_weight (counted n) = false
refused_weight (faulted f) = false
refused_weight (refused n) = n == 12

abbrev pub came_to_put : Reply → Held → Held → Bool
came_to_put a h h' = refused_weight a || nat_lt (length h.values) (length h'.values)

-- one call, in whatever state session and store are: what it replies, and what they then hold
pub record Called (w : List ℕ → ℕ) (text : List ℕ) (c : Call) (x : Session) (h : Held) (a : Reply) (x' : Session) (h' : Held) : Type 0 where
  -- the ledger's step; a value that a stranger left open does not count
  pub step : Step w (limits_of x h) text (ledger_of x (dropped h)) c a (ledger_of x' (dropped h'))
  pub limits : limits_of x' h' ≡ limits_of x h
  -- such a value is dropped by a scan that comes to put units, and kept by every other call
  pub left_open : h'.draft ≡ cond (came_to_put a h h') [] h.draft
  -- a table or list to which nothing is added is not written, used or not, and nothing is ever written past the limits
  pub strings_kept : entries_of x'.strings ≡ entries_of x.strings → slots_of x'.strings ≡ slots_of x.strings
  pub templates_kept : entries_of x'.templates ≡ entries_of x.templates → slots_of x'.templates ≡ slots_of x.templates
  pub records_kept : faults_of x'.faults ≡ faults_of x.faults → records_of x'.faults ≡ records_of x.faults
  pub beyond : unused (memory_of x') ≡ unused (memory_of x)

-- a life goes on: whatever was exchanged before, the law holds of it with this exchange behind it
abbrev pub LivesOn : (List ℕ → ℕ) → List ℕ → Call → Session → Held → Reply → Session → Held → Type 0
LivesOn w text c x h a x' h' =
    (m : Limits) (stored : List (List ℕ)) (past : List Exchange) → Lives w m text stored past x h → Lives w m text stored (past ++ (says c a ∷ [])) x' h'

-- one call of a session: it does what is asked, and every life goes on by it
pub record Plays (w : List ℕ → ℕ) (text : List ℕ) (c : Call) (x : Session) (h : Held) (a : Reply) (x' : Session) (h' : Held) : Type 0 where
  pub called : Called w text c x h a x' h'
  pub lives : LivesOn w text c x h a x' h'

-- and by some exchanges one after another
abbrev pub Carries : (List ℕ → ℕ) → List ℕ → Session → Held → List Exchange → Session → Held → Type 0
Carries w text x h es x' h' = (m : Limits) (stored : List (List ℕ)) (past : List Exchange) → Lives w m text stored past x h → Lives w m text stored (past ++ es) x' h'

-- every call goes on with every life
abbrev pub GoesOn : Type 0
GoesOn =
    (w : List ℕ → ℕ) (text : List ℕ) (c : Call) (x : Session) (h : Held) (a : Reply) (x' : Session) (h' : Held) → Called w text c x h a x' h' → LivesOn w text c x h a x' h'

-- a question leaves session and store as they are, whatever the text
pub record Asks (w : List ℕ → ℕ) (c : Call) (x : Session) (h : Held) (a : Reply) : Type 0 where
  pub called : (text : List ℕ) → Called w text c x h a x h
  pub lives : (text : List ℕ) → LivesOn w text c x h a x h
