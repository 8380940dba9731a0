-- A list of calls. Assumes nothing.
use Rattle.std.proofs.Common.{◌≡◌, ℕ, zero, suc, ◌+◌, ◌<◌, ◌≤◌, min, List, [], ◌∷◌, ◌++◌, length, get_or, take, drop, set, Result, sym, refl, ap, ◌∙◌, subst, arith}
use Rattle.std.proofs.lemmas.List.{drop-set-lt}
use Rattle.refusals.specs.declared.Refusal.{Refusal}
use Rattle.store.specs.Held.{Held}
use Rattle.ledger.specs.Calls.{says}
use Rattle.ledger.specs.Ledger.{Limits}
use Rattle.session.specs.declared.Session.{Session}
use Rattle.session.specs.declared.Call.{Call}
use Rattle.session.specs.declared.Answer.{Answer}
use Rattle.session.specs.Views.{limits_of, Memory, memory_of, unused}
use Rattle.session.specs.Calls.{Lives, Called, LivesOn}
use Rattle.session.specs.Performs.{asked, reply, transcript}

one_more : (cs : List Call) (rs : List (Result Answer Refusal)) (i : ℕ) (c : Call) (a : Result Answer Refusal) → i < length cs → i < length rs → transcript (take (suc i) cs) (set rs i a) ≡ transcript (take i cs) rs ++ (says (asked (get_or cs i c)) (reply a) ∷ [])
one_more [] rs i c a p q = absurd (omega arith)
one_more (d ∷ cs) [] i c a p q = absurd (omega arith)
one_more (d ∷ cs) (r ∷ rs) zero c a p q = refl
one_more (d ∷ cs) (r ∷ rs) (suc i) c a p q = ap (λ z. says (asked d) (reply r) ∷ z) (one_more cs rs i c a (omega arith) (omega arith))

all_of : (cs : List Call) (rs : List (Result Answer Refusal)) (n : ℕ) → min (length cs) (length rs) ≤ n → transcript (take n cs) rs ≡ transcript cs rs
all_of [] rs zero p = refl
all_of [] rs (suc n) p = refl
all_of (c ∷ cs) [] zero p = refl
all_of (c ∷ cs) [] (suc n) p = refl
all_of (c ∷ cs) (r ∷ rs) zero p = absurd (omega arith)
all_of (c ∷ cs) (r ∷ rs) (suc n) p = ap (λ z. says (asked c) (reply r) ∷ z) (all_of cs rs n (omega arith))

-- the calls so far are a life, nothing is written past the limits, and the answers past the last call are as they were
pub record Served (w : List ℕ → ℕ) (m : Limits) (text : List ℕ) (stored : List (List ℕ)) (memory : Memory) (cs : List Call) (rs₀ : List (Result Answer Refusal)) (i : ℕ) (rs : List (Result Answer Refusal)) (x : Session) (h : Held) : Type 0 where
  pub lives : Lives w m text stored (transcript (take i cs) rs) x h
  pub beyond : unused (memory_of x) ≡ memory
  pub past : drop (length cs) rs ≡ drop (length cs) rs₀

module _ (w : List ℕ → ℕ) (m : Limits) (text : List ℕ) (stored : List (List ℕ)) (memory : Memory) (cs : List Call) (rs₀ : List (Result Answer Refusal)) where
  pub next :
      (i : ℕ) (rs : List (Result Answer Refusal)) (x : Session) (h : Held) (c d : Call) (a : Result Answer Refusal) (x' : Session) (h' : Held) → d ≡ get_or cs i c → i < length cs → i < length rs → Served w m text stored memory cs rs₀ i rs x h
      → Called w text (asked d) x h (reply a) x' h' → LivesOn w text (asked d) x h (reply a) x' h' → Served w m text stored memory cs rs₀ (i + 1) (set rs i a) x' h'
  next i rs x h c d a x' h' is p q served called on =
      let up : suc i ≡ i + 1 = omega arith in
      let more : transcript (take (i + 1) cs) (set rs i a) ≡ transcript (take i cs) rs ++ (says (asked d) (reply a) ∷ []) =
      ap (λ k. transcript (take k cs) (set rs i a)) (sym up) ∙ one_more cs rs i c a p q ∙ ap (λ (z : Call). transcript (take i cs) rs ++ (says (asked z) (reply a) ∷ [])) (sym is) in
      record {
        lives = subst (λ z. Lives w m text stored z x' h') (sym more) (on m stored (transcript (take i cs) rs) served.lives);
        beyond = called.beyond ∙ served.beyond;
        past = drop-set-lt (length cs) rs i a p ∙ served.past;
      }

  pub end : (i : ℕ) (rs : List (Result Answer Refusal)) (x : Session) (h : Held) → min (length cs) (length rs) ≤ i → Served w m text stored memory cs rs₀ i rs x h → Lives w m text stored (transcript cs rs) x h
  end i rs x h p served = subst (λ z. Lives w m text stored z x h) (all_of cs rs i p) served.lives

-- before the first call
pub first :
    (w : List ℕ → ℕ) (m : Limits) (text : List ℕ) (stored : List (List ℕ)) (cs : List Call) (rs : List (Result Answer Refusal)) (x : Session) (h : Held) → Lives w m text stored [] x h → h.values ≡ stored
    → Served w (limits_of x h) text h.values (unused (memory_of x)) cs rs 0 rs x h
first w m text stored cs rs x h lived e = record {
  lives = subst (λ z. Lives w (limits_of x h) text z [] x h) (sym e) (subst (λ (z : Limits). Lives w z text stored [] x h) (sym lived.limits) lived);
  beyond = refl;
  past = refl;
}

-- and as the caller sees it
pub whole :
    (w : List ℕ → ℕ) (m m' : Limits) (text : List ℕ) (stored stored' : List (List ℕ)) (cs : List Call) (rs : List (Result Answer Refusal)) (x : Session) (h : Held) → m ≡ m' → stored ≡ stored'
    → Lives w m text stored (transcript cs rs) x h → Lives w m' text stored' (transcript cs rs) x h
whole w m m' text stored stored' cs rs x h em es lived =
    subst (λ z. Lives w m' text z (transcript cs rs) x h) es (subst (λ (z : Limits). Lives w z text stored (transcript cs rs) x h) em lived)
