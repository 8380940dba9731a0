-- What the proofs of the law of stop sets use: a test of a whole table, at each of its entries. Assumes nothing.
use Rattle.std.specs.Prelude.{◌≡◌, ℕ, zero, suc, ◌+◌, ◌<◌, ◌≤◌, Bool, true, false, List, [], ◌∷◌, length, get_or, slice_index_or}
use Rattle.std.proofs.Common.{◌∙◌, subst, sym, ap, inl, inr, ⊎_elim, add-zero, zero-add, add-suc, suc-add, le_of_suc-le-suc, not-suc-le-zero, arith}
use Rattle.std.proofs.lemmas.Bool.{and_parts, or_cases}
use Rattle.std.proofs.lemmas.Bool.Decides.{nat_tests}
use Rattle.std.specs.Bool.{beq}
use Rattle.std.specs.Cmp.{booleans_Decides}
use Rattle.stops.specs.Stops.{every, lawful, wanted, Safe, tabled}

from : (f : ℕ → Bool → Bool) (xs : List Bool) (i : ℕ) → every f i xs ≡ true → (k : ℕ) → k < length xs → f (i + k) (slice_index_or xs k false) ≡ true
from f [] i t k h = absurd (not-suc-le-zero h)
from f (x ∷ xs) i t zero h = subst (λ (m : ℕ). f m x ≡ true) (sym (add-zero i)) (and_parts (f i x) (every f (suc i) xs) t).0
from f (x ∷ xs) i t (suc k) h =
    subst (λ (m : ℕ). f m (slice_index_or xs k false) ≡ true) (suc-add i k ∙ sym (add-suc i k))
    (from f xs (suc i) (and_parts (f i x) (every f (suc i) xs) t).1 k (le_of_suc-le-suc h))

-- what one test of the whole table says of each entry
pub every_at : (f : ℕ → Bool → Bool) (xs : List Bool) → every f 0 xs ≡ true → (k : ℕ) → k < length xs → f k (slice_index_or xs k false) ≡ true
every_at f xs t k h = subst (λ (m : ℕ). f m (slice_index_or xs k false) ≡ true) (zero-add k) (from f xs 0 t k h)

pub wanted_use : (lo hi : ℕ) (want : Bool) (k : ℕ) (x : Bool) → lo ≤ k → k ≤ hi → wanted lo hi want k x ≡ beq x want
wanted_use lo hi want k x a b = grind (arith, nat_tests)

pub range_at : (lo hi : ℕ) (want : Bool) (xs : List Bool) → every (wanted lo hi want) 0 xs ≡ true → hi < length xs → (b : ℕ) → lo ≤ b → b ≤ hi → slice_index_or xs b false ≡ want
range_at lo hi want xs t n b a c =
    (booleans_Decides (slice_index_or xs b false) want).0 (sym (wanted_use lo hi want b (slice_index_or xs b false) a c) ∙ every_at (wanted lo hi want) xs t b (omega arith))

-- the law of a table, at each byte
pub safe_at : (xs : List Bool) → length xs ≡ 256 → lawful xs ≡ true → Safe (λ b. get_or xs b false)
safe_at xs n t =
    ⊎_elim (λ e. inl (range_at 192 247 true xs e (omega arith))) (λ e. inr (range_at 128 191 false xs e (omega arith)))
    (or_cases (every (wanted 192 247 true) 0 xs) (every (wanted 128 191 false) 0 xs) t)

tabled_from : (p : ℕ → Bool) (n i b : ℕ) → b < n → slice_index_or (tabled p i n) b false ≡ p (i + b)
tabled_from p zero i b h = absurd (not-suc-le-zero h)
tabled_from p (suc n) i zero h = ap p (sym (add-zero i))
tabled_from p (suc n) i (suc b) h = tabled_from p n (suc i) b (le_of_suc-le-suc h) ∙ ap p (suc-add i b ∙ sym (add-suc i b))

pub tabled_at : (p : ℕ → Bool) (n b : ℕ) → b < n → slice_index_or (tabled p 0 n) b false ≡ p b
tabled_at p n b h = tabled_from p n 0 b h ∙ ap p (zero-add b)

-- a rule whose table passes the test is safe at each byte
pub safe_rule : (p : ℕ → Bool) → length (tabled p 0 256) ≡ 256 → lawful (tabled p 0 256) ≡ true → Safe p
safe_rule p n t =
    ⊎_elim (λ f. inl (λ b lo hi. sym (tabled_at p 256 b (omega arith)) ∙ f b lo hi))
    (λ f. inr (λ b lo hi. sym (tabled_at p 256 b (omega arith)) ∙ f b lo hi))
    (safe_at (tabled p 0 256) n t)
