-- Text that is written a line at a time. Assumes nothing.
use Rattle.std.proofs.Common.{◌≡◌, ℕ, List, [], ◌∷◌, ◌++◌, Some, None, Option, Result, IfSome, IsOk, codes, length, vec_items, refl, ap, ◌∙◌, sym, append_assoc, append-nil}
use Rattle.std.specs.declared.fmt.Formatter.{Formatter}
use Rattle.std.specs.declared.fmt.Error.{Error}
use Rattle.std.specs.Fmt.{IsPlainFormatter, HasWritten, DisplaysOnOk, with_newline, ◌++?◌, decimal}
use Rattle.std.specs.List.{flat_map}
use Rattle.std.proofs.Output.{has_written_append}
use Rattle.faults.specs.declared.list.Fault.{Fault}
use Rattle.faults.specs.Records.{fault_text}
use Rattle.reports.specs.declared.report.Line.{Line}
use Rattle.reports.specs.declared.report.Report.{Report}
use Rattle.reports.specs.Printed.{listed, line_text, report_text}

none_before : (o : Option (List ℕ)) → Some [] ++? o ≡ o
none_before None = refl
none_before (Some a) = refl

none_behind : (o : Option (List ℕ)) → o ++? Some [] ≡ o
none_behind None = refl
none_behind (Some a) = ap Some (append-nil a)

regrouped : (o p q : Option (List ℕ)) → o ++? (p ++? q) ≡ (o ++? p) ++? q
regrouped None p q = refl
regrouped (Some a) None q = refl
regrouped (Some a) (Some b) None = refl
regrouped (Some a) (Some b) (Some c) = ap Some (sym (append_assoc a b c))

-- one item more
pub listed_more : {A : Type 0} (f : A → Option (List ℕ)) (xs : List A) (a : A) → listed f (xs ++ a ∷ []) ≡ listed f xs ++? with_newline (f a)
listed_more f [] a = none_behind (with_newline (f a)) ∙ sym (none_before (with_newline (f a)))
listed_more f (b ∷ xs) a = ap (λ z. with_newline (f b) ++? z) (listed_more f xs a) ∙ regrouped (with_newline (f b)) (listed f xs) (with_newline (f a))

-- where each item has its text, so have all
pub listed_all : {A : Type 0} (f : A → List ℕ) (xs : List A) → listed (λ a. Some (f a)) xs ≡ Some (flat_map (λ a. f a ++ codes "\n") xs)
listed_all f [] = refl
listed_all f (a ∷ xs) = ap (λ z. with_newline (Some (f a)) ++? z) (listed_all f xs)

-- a text behind what is written
pub written_more :
    {W : Type 0} (took : W → List ℕ → W → Type 0) (f g h : Formatter W) (r : Result (Unit {0}) Error) (o p : Option (List ℕ)) → (IsPlainFormatter f → IfSome o (λ text. HasWritten took f text g))
    → DisplaysOnOk took g r p h → IsOk r → IsPlainFormatter f → IfSome (o ++? p) (λ text. HasWritten took f text h)
written_more took f g h r None p before next done plain = tt
written_more took f g h r (Some a) None before next done plain = tt
written_more took f g h r (Some a) (Some b) before next done plain = let x = before plain in has_written_append took f a g b h x (next x.plain done)

-- a report's lines, count and faults are its text
pub reported_text :
    (r : Report) (lines : List Line) (n : ℕ) (faults : List Fault) → lines ≡ vec_items r.lines → n ≡ length (vec_items r.faults) → faults ≡ vec_items r.faults
    → listed (λ l. Some (line_text l)) lines ++? (Some (codes "faults ") ++? (Some (decimal n) ++? (Some (codes "\n") ++? listed (λ f. Some (fault_text f)) faults))) ≡ Some (report_text r)
reported_text r lines n faults e m d = rw (e, m, d, listed_all line_text (vec_items r.lines), listed_all fault_text (vec_items r.faults)) (simp append_assoc)
