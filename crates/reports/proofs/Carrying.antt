-- Exchanges one after another. Assumes nothing.
use Rattle.std.proofs.Common.{◌≡◌, ℕ, ◌+◌, ◌<◌, ◌≤◌, Bool, true, cond, List, [], ◌∷◌, ◌++◌, map, length, get_or, take, vec_items, sym, refl, ap, ◌∙◌, subst, append_assoc, append-nil, arith, take_all}
use Rattle.std.proofs.ResultArms.{chosen}
use Rattle.std.proofs.lemmas.List.{take_more}
use Rattle.store.specs.Held.{Held}
use Rattle.ledger.specs.Calls as ask
use Rattle.session.specs.declared.Session.{Session}
use Rattle.session.specs.Calls.{Carries}
use Rattle.session.proofs.Carrying.{still, joined, as_told}
use Rattle.commands.specs.declared.kinds.Command.{Command}
use Rattle.reports.specs.declared.report.Line.{Line}
use Rattle.reports.specs.declared.report.Report.{Report}
use Rattle.reports.specs.Transcript.{each_told, told_of, lines_told, all_faults_told, Played}

-- one item more is one exchange more
pub each_more : {A : Type 0} (f : ℕ → A → ask.Exchange) (i : ℕ) (xs : List A) (a : A) → each_told f i (xs ++ (a ∷ [])) ≡ each_told f i xs ++ (f (i + length xs) a ∷ [])
each_more f i [] a = ap (λ (k : ℕ). f k a ∷ []) (omega arith)
each_more f i (b ∷ xs) a =
    let up : i + 1 + length xs ≡ i + length (b ∷ xs) = omega arith in
    ap (λ z. f i b ∷ z) (each_more f (i + 1) xs a ∙ ap (λ (k : ℕ). each_told f (i + 1) xs ++ (f k a ∷ [])) up)

-- one line more
pub line_more : (ls : List Line) (l : Line) → lines_told (ls ++ (l ∷ [])) ≡ lines_told ls ++ told_of l.command l.told
line_more [] l = append-nil (told_of l.command l.told)
line_more (k ∷ ls) l = ap (λ z. told_of k.command k.told ++ z) (line_more ls l) ∙ sym (append_assoc (told_of k.command k.told) (lines_told ls) (told_of l.command l.told))

pub command_more : (ls : List Line) (l : Line) → map (λ (k : Line). k.command) (ls ++ (l ∷ [])) ≡ map (λ (k : Line). k.command) ls ++ (l.command ∷ [])
command_more [] l = refl
command_more (k ∷ ls) l = ap (λ z. k.command ∷ z) (command_more ls l)

-- the first i commands were performed: a line for each, and the law over their calls
pub record Lined (w : List ℕ → ℕ) (text : List ℕ) (x : Session) (h : Held) (cs : List Command) (i : ℕ) (ls : List Line) (x' : Session) (h' : Held) : Type 0 where
  pub commands : map (λ (l : Line). l.command) ls ≡ take i cs
  pub lives : Carries w text x h (lines_told ls) x' h'

module _ (w : List ℕ → ℕ) (text : List ℕ) (x : Session) (h : Held) (cs : List Command) where
  pub lined_none : (ls : List Line) → ls ≡ [] → Lined w text x h cs 0 ls x h
  lined_none ls e = subst (λ z. Lined w text x h cs 0 z x h) (sym e) (record { commands = refl; lives = still w text x h })

  pub lined_more :
      (i : ℕ) (ls more : List Line) (l : Line) (d : Command) (b : Bool) (x₁ x₂ : Session) (h₁ h₂ : Held) → i < length cs → Lined w text x h cs i ls x₁ h₁
      → more ≡ cond b (ls ++ (l ∷ [])) ls → b ≡ true → l.command ≡ get_or cs i d → Carries w text x₁ h₁ (told_of l.command l.told) x₂ h₂ → Lined w text x h cs (i + 1) more x₂ h₂
  lined_more i ls more l d b x₁ x₂ h₁ h₂ p got e pushed is told =
      subst (λ z. Lined w text x h cs (i + 1) z x₂ h₂) (sym (chosen _ _ _ _ e pushed))
      (record {
        commands = command_more ls l ∙ ap (λ z. z ++ (l.command ∷ [])) got.commands ∙ ap (λ z. take i cs ++ (z ∷ [])) is ∙ sym (take_more cs i d p);
        lives = as_told w text x h _ _ x₂ h₂ (sym (line_more ls l)) (joined w text x h _ _ x₁ x₂ h₁ h₂ got.lives told);
      })

  pub lined_all : (i : ℕ) (r : Report) (x₁ : Session) (h₁ : Held) → length cs ≤ i → Lined w text x h cs i (vec_items r.lines) x₁ h₁ → Carries w text x₁ h₁ (all_faults_told (vec_items r.faults)) x₁ h₁ → Played w text x h cs r x₁ h₁
  lined_all i r x₁ h₁ p got faults = record { commands = got.commands ∙ take_all i cs p; lives = joined w text x h _ _ x₁ x₁ h₁ h₁ got.lives faults }
