-- Requests one after another. Assumes nothing.
use Rattle.std.proofs.Common.{◌≡◌, ℕ, ◌+◌, ◌<◌, min, List, [], ◌∷◌, ◌++◌, map, length, get_or, take, drop, set, None, sym, refl, ap, ◌∙◌, subst, append_assoc, append-nil, arith, length-append}
use Rattle.std.proofs.lemmas.List.{take_more, take_more_set, drop-set-lt, length-take-le}
use Rattle.store.specs.Held.{Held}
use Rattle.ledger.specs.Calls as ask
use Rattle.session.specs.declared.Session.{Session}
use Rattle.ledger.specs.Ledger.{Limits}
use Rattle.ledger.specs.Life.{Lived}
use Rattle.session.specs.Calls.{Lives, Carries}
use Rattle.session.specs.Views.{ledger_of}
use Rattle.session.proofs.Carrying.{still, joined, as_told}
use Rattle.nethrawf.specs.declared.forms.Request.{Request}
use Rattle.nethrawf.specs.declared.forms.Response.{Response}
use Rattle.nethrawf.specs.Numbers.{asks, written}
use Rattle.nethrawf.specs.Lives.{exchanged, exchanges, MalformedRefused, Performed, Served}
use Rattle.nethrawf.specs.Exports.{LivedThrough}

-- one request and one reply more

exchanges_more :
    (qs : List Request) (rs : List ask.Reply) (q : Request) (a : ask.Reply) → length qs ≡ length rs
    → exchanges (qs ++ (q ∷ [])) (rs ++ (a ∷ [])) ≡ exchanges qs rs ++ exchanged (asks q) a
exchanges_more [] [] q a e = append-nil (exchanged (asks q) a)
exchanges_more [] (b ∷ rs) q a e = absurd (omega (arith, e))
exchanges_more (p ∷ qs) [] q a e = absurd (omega (arith, e))
exchanges_more (p ∷ qs) (b ∷ rs) q a e =
    ap (λ z. exchanged (asks p) b ++ z) (exchanges_more qs rs q a (omega (arith, e))) ∙ sym (append_assoc (exchanged (asks p) b) (exchanges qs rs) (exchanged (asks q) a))

malformed_more :
    (qs : List Request) (rs : List ask.Reply) (q : Request) (a : ask.Reply) → length qs ≡ length rs → MalformedRefused qs rs → (asks q ≡ None → a ≡ ask.refused 7)
    → MalformedRefused (qs ++ (q ∷ [])) (rs ++ (a ∷ []))
malformed_more [] [] q a e all one = (one, tt)
malformed_more [] (b ∷ rs) q a e all one = absurd (omega (arith, e))
malformed_more (p ∷ qs) [] q a e all one = absurd (omega (arith, e))
malformed_more (p ∷ qs) (b ∷ rs) q a e all one = (all.0, malformed_more qs rs q a (omega (arith, e)) all.1 one)

-- as many requests as there are replies count

exchanges_all : (qs : List Request) (rs : List ask.Reply) → exchanges (take (length rs) qs) rs ≡ exchanges qs rs
exchanges_all [] [] = refl
exchanges_all [] (a ∷ rs) = refl
exchanges_all (q ∷ qs) [] = refl
exchanges_all (q ∷ qs) (a ∷ rs) = ap (λ z. exchanged (asks q) a ++ z) (exchanges_all qs rs)

malformed_all : (qs : List Request) (rs : List ask.Reply) → MalformedRefused (take (length rs) qs) rs → MalformedRefused qs rs
malformed_all [] [] all = tt
malformed_all [] (a ∷ rs) all = tt
malformed_all (q ∷ qs) [] all = tt
malformed_all (q ∷ qs) (a ∷ rs) all = (all.0, malformed_all qs rs all.1)

written_more : (as₁ : List ask.Reply) (a : ask.Reply) → map written (as₁ ++ (a ∷ [])) ≡ map written as₁ ++ (written a ∷ [])
written_more [] a = refl
written_more (b ∷ as₁) a = ap (λ z. written b ∷ z) (written_more as₁ a)

-- the first i requests were performed
pub record Sofar (w : List ℕ → ℕ) (text : List ℕ) (x : Session) (h : Held) (qs : List Request) (rs₀ : List Response) (i : ℕ) (rs : List Response) (x' : Session) (h' : Held) : Type 0 where
  pub replies : List ask.Reply
  pub all : length replies ≡ i
  pub told : take i rs ≡ map written replies
  pub past : drop (length qs) rs ≡ drop (length qs) rs₀
  pub malformed : MalformedRefused (take i qs) replies
  pub lives : Carries w text x h (exchanges (take i qs) replies) x' h'

module _ (w : List ℕ → ℕ) (text : List ℕ) (x : Session) (h : Held) (qs : List Request) (rs₀ : List Response) where
  pub first : Sofar w text x h qs rs₀ 0 rs₀ x h
  first = record { replies = []; all = refl; told = refl; past = refl; malformed = none qs; lives = as_told w text x h [] _ x h (nothing qs) (still w text x h) }
    where
      none : (ps : List Request) → MalformedRefused (take 0 ps) []
      none [] = tt
      none (p ∷ ps) = tt

      nothing : (ps : List Request) → [] ≡ exchanges (take 0 ps) []
      nothing [] = refl
      nothing (p ∷ ps) = refl

  pub next :
      (i : ℕ) (rs : List Response) (d q : Request) (a : ask.Reply) (r : Response) (x₁ x₂ : Session) (h₁ h₂ : Held) → q ≡ get_or qs i d → i < length qs → i < length rs → Sofar w text x h qs rs₀ i rs x₁ h₁
      → Performed w text x₁ h₁ q a x₂ h₂ → r ≡ written a → Sofar w text x h qs rs₀ (i + 1) (set rs i r) x₂ h₂
  next i rs d q a r x₁ x₂ h₁ h₂ e p p' got one told =
      let asked_more : take (i + 1) qs ≡ take i qs ++ (q ∷ []) = take_more qs i d p ∙ ap (λ (z : Request). take i qs ++ (z ∷ [])) (sym e) in
      let same : length (take i qs) ≡ length got.replies = length-take-le i qs (omega arith) ∙ sym got.all in
      record {
        replies = got.replies ++ (a ∷ []);
        all = length-append got.replies (a ∷ []) ∙ ap (λ (k : ℕ). k + 1) got.all;
        told = take_more_set rs i r p' ∙ ap (λ z. z ++ (r ∷ [])) got.told ∙ ap (λ (z : Response). map written got.replies ++ (z ∷ [])) told ∙ sym (written_more got.replies a);
        past = drop-set-lt (length qs) rs i r p ∙ got.past;
        malformed = subst (λ z. MalformedRefused z (got.replies ++ (a ∷ []))) (sym asked_more) (malformed_more (take i qs) got.replies q a same got.malformed one.malformed);
        lives =
            as_told w text x h _ _ x₂ h₂ (sym (exchanges_more (take i qs) got.replies q a same) ∙ ap (λ z. exchanges z (got.replies ++ (a ∷ []))) (sym asked_more))
            (joined w text x h _ _ x₁ x₂ h₁ h₂ got.lives one.lives);
      }

  pub last : (i : ℕ) (rs : List Response) (x' : Session) (h' : Held) → i ≡ min (length qs) (length rs₀) → Sofar w text x h qs rs₀ i rs x' h' → Served w text x h qs rs₀ rs x' h'
  last i rs x' h' e got = record {
    replies = got.replies;
    all = got.all ∙ e;
    told = ap (λ (k : ℕ). take k rs) got.all ∙ got.told;
    past = got.past;
    malformed = malformed_all qs got.replies (subst (λ (k : ℕ). MalformedRefused (take k qs) got.replies) (sym got.all) got.malformed);
    lives =
        as_told w text x h _ _ x' h' (ap (λ (k : ℕ). exchanges (take k qs) got.replies) (sym got.all) ∙ exchanges_all qs got.replies) got.lives;
  }

-- a life from the making on, over a store without values
pub lived_through :
    (w : List ℕ → ℕ) (text : List ℕ) (m m' : Limits) (stored : List (List ℕ)) (qs : List Request) (rs₀ rs : List Response) (x x' : Session) (h h' : Held) → m' ≡ m → stored ≡ []
    → Lives w m' text stored [] x h → Served w text x h qs rs₀ rs x' h' → LivedThrough w m text qs rs₀ rs
lived_through w text m m' stored qs rs₀ rs x x' h h' e none made got =
    let life = got.lives m' stored [] made in
    record {
      replies = got.replies;
      all = got.all;
      told = got.told;
      past = got.past;
      malformed = got.malformed;
      held = ledger_of x' h';
      lived =
          subst (λ v. Lived w m text v (exchanges qs got.replies) m (ledger_of x' h')) none
          (subst (λ v. Lived w v text stored (exchanges qs got.replies) v (ledger_of x' h')) e
          (subst (λ v. Lived w m' text stored (exchanges qs got.replies) v (ledger_of x' h')) life.limits life));
    }
