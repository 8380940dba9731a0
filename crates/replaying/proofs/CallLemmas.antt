-- One more call behind those that were made.
use Rattle.std.proofs.Common.{List, [], ◌∷◌, ◌++◌, sym, subst, refl}
use Rattle.std.specs.List.{FoldsTo}

pub FoldsTo-push : {P A : Type 0} (R : P → A → P → Type 0) (p : P) (xs : List A) (q : P) (x : A) (r : P)
    → FoldsTo R p xs q → R q x r → FoldsTo R p (xs ++ x ∷ []) r
FoldsTo-push R p [] q x r e k = (r, subst (λ v. R v x r) (sym e) k, refl)
FoldsTo-push R p (y ∷ ys) q x r h k = (h.0, h.1, FoldsTo-push R h.0 ys q x r h.2 k)
