-- A call performed as the question or the scan that it is. Assumes nothing.
use Rattle.std.proofs.Common.{◌≡◌, ℕ, List, sym, subst}
use Rattle.store.specs.Held.{Held}
use Rattle.ledger.specs.Calls as ask
use Rattle.session.specs.declared.Session.{Session}
use Rattle.session.specs.declared.Call.{Call}
use Rattle.session.specs.Performs.{asked}
use Rattle.session.specs.Calls.{Plays, Called, Asks}
use Rattle.session.proofs.Goes.{plays}

pub performed :
    (w : List ℕ → ℕ) (text : List ℕ) (c d : Call) (x : Session) (h : Held) (a b : ask.Reply) (x' : Session) (h' : Held) → c ≡ d → a ≡ b → Called w text (asked d) x h b x' h'
    → Plays w text (asked c) x h a x' h'
performed w text c d x h a b x' h' e f called =
    plays w text (asked c) x h a x' h' (subst (λ (z : Call). Called w text (asked z) x h a x' h') (sym e) (subst (λ (z : ask.Reply). Called w text (asked d) x h z x' h') (sym f) called))

pub question : (w : List ℕ → ℕ) (text : List ℕ) (c d : Call) (x : Session) (h : Held) (a b : ask.Reply) → c ≡ d → a ≡ b → Asks w (asked d) x h b → Plays w text (asked c) x h a x h
question w text c d x h a b e f asks = performed w text c d x h a b x h e f (asks.called text)
