-- From an input to its report. Assumes nothing.
use Rattle.std.proofs.Common.{◌≡◌, ℕ, ◌+◌, ◌≤◌, List, [], ◌∷◌, length, IfOk, IsErrAnd, MatchResult, Ok, Err, Result, refl, ap, ◌∙◌, subst, inr, arith, length-append}
use Rattle.refusals.specs.declared.Refusal.{Refusal}
use Rattle.refusals.specs.declared.Refusal.TheVariants.{TooLong, NotUtf8, StartPastEnd, WrongOpening, IndexPastEnd, UnlawfulPattern, MalformedCommand, NoEntry, NoRecord, NoSlot, NoPlace, NoCapacity, PartNotUtf8}
use Rattle.refusals.specs.Numbers.{number_of}
use Rattle.source.specs.Checks.{NoText}
use Rattle.source.specs.Texts.{IsText}
use Rattle.store.specs.Held.{Held, empty}
use Rattle.ledger.specs.Ledger.{Limits}
use Rattle.ledger.specs.Life.{Lived}
use Rattle.session.specs.declared.Session.{Session}
use Rattle.session.specs.Views.{lent, ledger_of}
use Rattle.session.specs.Calls.{Lives}
use Rattle.commands.specs.declared.kinds.Command.{Command}
use Rattle.commands.specs.Format.{Input}
use Rattle.reports.specs.declared.report.Report.{Report}
use Rattle.refusals.specs.declared.failure.Failure.{Failure}
use Rattle.refusals.specs.declared.failure.Failure.TheVariants.{Refused}
use Rattle.reports.specs.Transcript.{transcript, Played}
use Rattle.reports.specs.Answers.{bench, LivedThrough, TurnedDown, Answers}

-- commands performed from the making on are a life
pub lived_through :
    {E : Type 0} (text : List ℕ) (cs : List Command) (h₀ : Held) (x x' : Session) (h h' : Held) (r : Result Report E) → h₀ ≡ empty 64 4096
    → Lives length (lent 64 64 64 h₀) text h₀.values [] x h → IfOk r (λ report. Played length text x h cs report x' h') → IfOk r (λ report. LivedThrough text cs report)
lived_through text cs h₀ x x' h h' (Ok report) e lived played =
    let first : Lives length bench text [] [] x h = subst (λ (z : Held). Lives length (lent 64 64 64 z) text z.values [] x h) e lived in
    let all = played.lives bench [] [] first in
    (played.commands, (ledger_of x' h', subst (λ (z : Limits). Lived length bench text [] (transcript report) z (ledger_of x' h')) all.limits all))
lived_through text cs h₀ x x' h h' (Err e) same lived played = tt

-- the text is no longer than the input
shorter : (cs : List Command) (text input : List ℕ) → Input cs text input → length text ≤ length input
shorter [] text input e = let n : length input ≡ length (10 ∷ text) = ap length e in omega arith
shorter (c ∷ cs) text input found =
    let more : length text ≤ length found.1 = shorter cs text found.1 found.4 in
    let n : length input ≡ length found.0 + length (10 ∷ found.1) = ap length found.2 ∙ length-append found.0 (10 ∷ found.1) in
    omega arith

-- a text within an input is turned down only for its bytes
pub no_text : (cs : List Command) (text input : List ℕ) (e : Refusal) → length input ≤ 32768 → Input cs text input → NoText text e → TurnedDown input (number_of e)
no_text cs text input TooLong p found none = let less : length text ≤ length input = shorter cs text input found in absurd (omega arith)
no_text cs text input (NotUtf8 n) p found none = inr (inr (refl, p, (cs, text, found, none.1)))
no_text cs text input StartPastEnd p found none = absurd none
no_text cs text input WrongOpening p found none = absurd none
no_text cs text input IndexPastEnd p found none = absurd none
no_text cs text input UnlawfulPattern p found none = absurd none
no_text cs text input MalformedCommand p found none = absurd none
no_text cs text input NoEntry p found none = absurd none
no_text cs text input NoRecord p found none = absurd none
no_text cs text input NoSlot p found none = absurd none
no_text cs text input NoPlace p found none = absurd none
no_text cs text input NoCapacity p found none = absurd none
no_text cs text input PartNotUtf8 p found none = absurd none

-- and `?` passes the refusal on
pub turned_down :
    (r : Result Report Failure) (input : List ℕ) (f : Refusal) → IsErrAnd r (λ failure. failure ≡ Refused f) → TurnedDown input (number_of f)
    → MatchResult r (λ report. Answers input (Ok report)) (λ failure. (e : Refusal) → failure ≡ Refused e → Answers input (Err e))
turned_down (Ok report) input f passed why = absurd passed
turned_down (Err failure) input f passed why = λ e is. let same : f ≡ e = cc in subst (λ z. TurnedDown input (number_of z)) same why

-- what the commands of an input on its text tell is the answer to the input
pub reported :
    (cs cs' : List Command) (text bytes input : List ℕ) (r : Report) → length input ≤ 32768 → Input cs text input → IsText text → bytes ≡ text → cs' ≡ cs → LivedThrough bytes cs' r → Answers input (Ok r)
reported cs cs' text bytes input r p found is e f lived =
    (p, (cs, text, found, is.0, subst (λ z. LivedThrough text z r) f (subst (λ z. LivedThrough z cs' r) e lived)))
