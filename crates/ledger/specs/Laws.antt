-- What holds of every life. Assumes nothing.
use Rattle.std.specs.Prelude.{◌≡◌, ℕ, List, [], ◌∷◌, ◌++◌, map}
use Rattle.ledger.specs.Calls.{Call, Reply, Exchange, says}
use Rattle.ledger.specs.Ledger.{Limits, Ledger, made, Step}
use Rattle.ledger.specs.Life.{Line, exchange, Run, Lived}

-- every run from the making keeps the law
abbrev pub RunsKeep : Type 0
RunsKeep =
    (w : List ℕ → ℕ) (m : Limits) (text : List ℕ) (stored : List (List ℕ)) (lines : List Line) (l : Ledger) → Run w m text (made stored) lines l
    → Lived w m text stored (map exchange lines) m l

-- what was just made has lived, with nothing exchanged
abbrev pub Begins : Type 0
Begins = (w : List ℕ → ℕ) (m : Limits) (text : List ℕ) (stored : List (List ℕ)) → Lived w m text stored [] m (made stored)

-- one step more is one more call of the life
abbrev pub GoesOn : Type 0
GoesOn =
    (w : List ℕ → ℕ) (m : Limits) (text : List ℕ) (stored : List (List ℕ)) (past : List Exchange) (l : Ledger) (c : Call) (a : Reply) (l' : Ledger)
    → Lived w m text stored past m l → Step w m text l c a l' → Lived w m text stored (past ++ (says c a ∷ [])) m l'

-- the calls alone decide: two lives with the same beginning and the same calls have the same replies, and leave the same

abbrev pub calls_of : List Exchange → List Call
calls_of [] = []
calls_of (e ∷ es) = e.call ∷ calls_of es

abbrev pub CallsDecide : Type 0
CallsDecide =
    (w : List ℕ → ℕ) (m : Limits) (text : List ℕ) (stored : List (List ℕ)) (past past' : List Exchange) (b b' : Limits) (l l' : Ledger)
    → calls_of past ≡ calls_of past' → Lived w m text stored past b l → Lived w m text stored past' b' l' → (past ≡ past') × (l ≡ l')
