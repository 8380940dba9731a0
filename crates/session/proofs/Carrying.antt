-- Exchanges one after another. Assumes nothing.
use Rattle.std.proofs.Common.{◌≡◌, ℕ, List, [], ◌++◌, sym, subst, append_assoc, append-nil}
use Rattle.store.specs.Held.{Held}
use Rattle.ledger.specs.Calls.{Exchange}
use Rattle.session.specs.declared.Session.{Session}
use Rattle.session.specs.Calls.{Lives, Carries}

module _ (w : List ℕ → ℕ) (text : List ℕ) (x : Session) (h : Held) where
  -- nothing exchanged
  pub still : Carries w text x h [] x h
  still m stored past lived = subst (λ z. Lives w m text stored z x h) (sym (append-nil past)) lived

  -- some exchanges, and then others
  pub joined :
      (es fs : List Exchange) (x₁ x₂ : Session) (h₁ h₂ : Held) → Carries w text x h es x₁ h₁ → Carries w text x₁ h₁ fs x₂ h₂
      → Carries w text x h (es ++ fs) x₂ h₂
  joined es fs x₁ x₂ h₁ h₂ first then m stored past lived =
      subst (λ z. Lives w m text stored z x₂ h₂) (append_assoc past es fs) (then m stored (past ++ es) (first m stored past lived))

  pub as_told : (es fs : List Exchange) (x₁ : Session) (h₁ : Held) → es ≡ fs → Carries w text x h es x₁ h₁ → Carries w text x h fs x₁ h₁
  as_told es fs x₁ h₁ e carried = subst (λ z. Carries w text x h z x₁ h₁) e carried
