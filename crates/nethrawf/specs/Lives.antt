-- Requests performed on one session. Assumes nothing.
use Rattle.std.specs.Prelude.{◌≡◌, ℕ, min, List, [], ◌∷◌, ◌++◌, map, length, take, drop, Some, None, Option}
use Rattle.store.specs.Held.{Held}
use Rattle.ledger.specs.Calls as ask
use Rattle.session.specs.declared.Session.{Session}
use Rattle.session.specs.Calls.{Carries}
use Rattle.nethrawf.specs.declared.forms.Request.{Request}
use Rattle.nethrawf.specs.declared.forms.Response.{Response}
use Rattle.nethrawf.specs.Numbers.{asks, written}

-- a call and its reply; nothing, where no call is asked for
abbrev pub exchanged : Option ask.Call → ask.Reply → List ask.Exchange
exchanged None a = []
exchanged (Some c) a = ask.says c a ∷ []

abbrev pub exchanges : List Request → List ask.Reply → List ask.Exchange
exchanges [] more = []
exchanges (q ∷ qs) [] = []
exchanges (q ∷ qs) (a ∷ more) = exchanged (asks q) a ++ exchanges qs more

-- a request that asks for no call is refused with 7
abbrev pub MalformedRefused : List Request → List ask.Reply → Type 0
MalformedRefused [] more = Unit {0}
MalformedRefused (q ∷ qs) [] = Unit {0}
MalformedRefused (q ∷ qs) (a ∷ more) = (asks q ≡ None → a ≡ ask.refused 7) × MalformedRefused qs more

-- one request and its reply: a request that asks for no call is refused with 7, and a life goes on by the exchange
pub record Performed (w : List ℕ → ℕ) (text : List ℕ) (x : Session) (h : Held) (q : Request) (reply : ask.Reply) (x' : Session) (h' : Held) : Type 0 where
  pub malformed : asks q ≡ None → reply ≡ ask.refused 7
  pub lives : Carries w text x h (exchanged (asks q) reply) x' h'

-- all requests, as far as there is room for the responses: the responses are the replies of one life, and those past the last request are as they were
pub record Served (w : List ℕ → ℕ) (text : List ℕ) (x : Session) (h : Held) (qs : List Request) (rs₀ rs : List Response) (x' : Session) (h' : Held) : Type 0 where
  pub replies : List ask.Reply
  pub all : length replies ≡ min (length qs) (length rs₀)
  pub told : take (length replies) rs ≡ map written replies
  pub past : drop (length qs) rs ≡ drop (length qs) rs₀
  pub malformed : MalformedRefused qs replies
  pub lives : Carries w text x h (exchanges qs replies) x' h'
