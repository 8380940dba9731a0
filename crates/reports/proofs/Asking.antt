-- Questions asked one after another. Assumes nothing.
use Rattle.std.proofs.Common.{◌≡◌, ℕ, zero, suc, ◌+◌, ◌<◌, Bool, true, false, cond, ltb, List, [], ◌∷◌, ◌++◌, length, get_or, Some, None, Ok, Err, Option, Result, IsOk, sym, refl, ap, ◌∙◌, subst, arith, length-append}
use Rattle.std.proofs.lemmas.Bool.{lt-ltb}
use Rattle.refusals.specs.declared.Refusal.{Refusal}
use Rattle.faults.specs.declared.list.Fault.{Fault}
use Rattle.store.specs.Held.{Held}
use Rattle.ledger.specs.Calls as ask
use Rattle.ledger.specs.Ledger.{value_asked, unit_asked, fault_asked}
use Rattle.session.specs.declared.Session.{Session}
use Rattle.session.specs.Replies.{unit_reply, fault_reply}
use Rattle.session.specs.Calls.{Carries, Asks, LivesOn}
use Rattle.session.proofs.Carrying.{still, joined}
use Rattle.reports.specs.Transcript.{each_told, units_told, EachAnswers}

-- a unit within the value's length is told
pub unit_is_told : (v : Option (Option (List ℕ))) (many i : ℕ) (r : Result ℕ Refusal) → ask.valued true many ≡ value_asked v → i < many → unit_reply r ≡ unit_asked v i → IsOk r
unit_is_told v many i (Ok u) e p q = refl
unit_is_told None many i (Err x) e p q = absurd (cc)
unit_is_told (Some None) many i (Err x) e p q = absurd (cc)
unit_is_told (Some (Some us)) many i (Err x) e p q =
    let same : many ≡ length us = cc in
    let within : ltb i (length us) ≡ true = lt-ltb i (length us) (omega arith) in
    absurd (cc (rw within at q))

-- a fault below the count is told
pub fault_is_told : (fs : List Fault) (i : ℕ) (r : Result Fault Refusal) → i < length fs → fault_reply r ≡ fault_asked fs i → IsOk r
fault_is_told fs i (Ok f) p q = refl
fault_is_told [] i (Err x) p q = absurd (omega arith)
fault_is_told (f ∷ fs) zero (Err x) p q = absurd (cc)
fault_is_told (f ∷ fs) (suc i) (Err x) p q = fault_is_told fs i (Err x) (omega arith) q

-- THE SAME OF A REPLY THAT REFUSES, WHATEVER ITS NUMBER

refused_unit : (us : List ℕ) (i n : ℕ) (b : Bool) → ltb i (length us) ≡ b → i < length us → ask.refused n ≡ cond b (ask.united (get_or us i 0)) (ask.refused 5) → ⊥
refused_unit us i n true e p q = let z : ◌≡◌ {A = ℕ} 0 1 = cc in omega arith
refused_unit us i n false e p q = let f : true ≡ false = sym (lt-ltb i (length us) p) ∙ e in let z : ◌≡◌ {A = ℕ} 0 1 = cc in omega arith

-- a unit within the value's length is refused by no number
pub unit_not_refused : (v : Option (Option (List ℕ))) (many i n : ℕ) → ask.valued true many ≡ value_asked v → i < many → ask.refused n ≡ unit_asked v i → ⊥
unit_not_refused None many i n e p q = let z : ◌≡◌ {A = ℕ} 0 1 = cc in omega arith
unit_not_refused (Some None) many i n e p q = let z : ◌≡◌ {A = ℕ} 0 1 = cc in omega arith
unit_not_refused (Some (Some us)) many i n e p q =
    let same : many ≡ length us = cc in
    refused_unit us i n (ltb i (length us)) refl (omega arith) q

-- and neither is a fault below the count
pub fault_not_refused : (fs : List Fault) (i n : ℕ) → i < length fs → ask.refused n ≡ fault_asked fs i → ⊥
fault_not_refused [] i n p q = omega arith
fault_not_refused (f ∷ fs) zero n p q = let z : ◌≡◌ {A = ℕ} 0 1 = cc in omega arith
fault_not_refused (f ∷ fs) (suc i) n p q = fault_not_refused fs i n (omega arith) q

-- one item more, and it answers at its index
pub answers_more :
    {A : Type 0} (P : ℕ → A → Type 0) (i : ℕ) (items : List A) (a : A) → EachAnswers P i items → P (i + length items) a → EachAnswers P i (items ++ (a ∷ []))
answers_more P i [] a all one = let at : i + 0 ≡ i = omega arith in (subst (λ (k : ℕ). P k a) at one, tt)
answers_more P i (b ∷ items) a all one =
    let at : i + length (b ∷ items) ≡ i + 1 + length items = omega arith in
    (all.0, answers_more P (i + 1) items a all.1 (subst (λ (k : ℕ). P k a) at one))

pub so_many_more :
    {A : Type 0} (P : ℕ → A → Type 0) (n : ℕ) (items more : List A) (a : A) → length items ≡ n → EachAnswers P 0 items → more ≡ items ++ (a ∷ []) → P n a
    → (length more ≡ n + 1) × EachAnswers P 0 more
so_many_more P n items more a count all e one =
    let at : n ≡ 0 + length items = omega (arith, count) in
    subst (λ z. (length z ≡ n + 1) × EachAnswers P 0 z) (sym e)
    (length-append items (a ∷ []) ∙ ap (λ (k : ℕ). k + 1) count, answers_more P 0 items a all (subst (λ (k : ℕ). P k a) at one))

-- where each answer is an exchange of a life, all are
pub each_carries :
    {A : Type 0} (w : List ℕ → ℕ) (x : Session) (h : Held) (f : ℕ → A → ask.Exchange) (P : ℕ → A → Type 0)
    → ((i : ℕ) (a : A) → P i a → (text : List ℕ) → Carries w text x h (f i a ∷ []) x h) → (i : ℕ) (items : List A) → EachAnswers P i items → (text : List ℕ) → Carries w text x h (each_told f i items) x h
each_carries w x h f P one i [] all text = still w text x h
each_carries w x h f P one i (a ∷ items) all text =
    joined w text x h (f i a ∷ []) (each_told f (i + 1) items) x x h h (one i a all.0 text) (each_carries w x h f P one (i + 1) items all.1 text)

-- one exchange, and then others
pub headed :
    (w : List ℕ → ℕ) (text : List ℕ) (c : ask.Call) (a told : ask.Reply) (es : List ask.Exchange) (x x' : Session) (h h' : Held) → a ≡ told → LivesOn w text c x h a x h
    → Carries w text x h es x' h' → Carries w text x h (ask.says c told ∷ es) x' h'
headed w text c a told es x x' h h' e first then = joined w text x h (ask.says c told ∷ []) es x x' h h' (subst (λ (z : ask.Reply). LivesOn w text c x h z x h) e first) then

-- the value question, and then each unit
pub units_carry :
    (w : List ℕ → ℕ) (x : Session) (h : Held) (s many : ℕ) (us : List ℕ) → Asks w (ask.value s) x h (ask.valued true many) → length us ≡ many → ((text : List ℕ) → Carries w text x h (units_told s us) x h)
    → (text : List ℕ) → Carries w text x h (ask.says (ask.value s) (ask.valued true (length us)) ∷ units_told s us) x h
units_carry w x h s many us said n carried text =
    headed w text (ask.value s) (ask.valued true many) _ (units_told s us) x x h h (ap (ask.valued true) (sym n)) (said.lives text) (carried text)
