-- A test of a whole table, from each of its entries. Assumes nothing.
use Rattle.std.specs.Prelude.{◌≡◌, ℕ, suc, ◌+◌, ◌<◌, ◌≤◌, Bool, true, false, List, [], ◌∷◌, length, get_or, slice_index_or, refl}
use Rattle.std.proofs.Common.{◌-◌, take, drop, length-take, length-drop, ◌∙◌, subst, sym, ap, ⊎_elim, add-zero, zero-add, add-suc, suc-add, arith}
use Rattle.std.proofs.lemmas.Bool.{and_from, both_ways, cases_Bool}
use Rattle.std.proofs.lemmas.Bool.Decides.{nat_tests}
use Rattle.std.specs.Bool.{beq}
use Rattle.stops.specs.Stops.{every, wanted, tabled}
use Rattle.stops.specs.Entries.{every_at, wanted_use, range_at, tabled_at}
use Rattle.std.specs.Cmp.{booleans_Decides}
use Rattle.std.specs.List.{list_all}
use Rattle.std.proofs.lemmas.List.{get_or-take, get_or-drop, get_or_default}
use Rattle.std.proofs.lemmas.Bool.Decides.{Decides-by_and, same_from_decides}

-- one test of the whole table from what holds at each entry
to : (f : ℕ → Bool → Bool) (xs : List Bool) (i : ℕ) → ((k : ℕ) → k < length xs → f (i + k) (slice_index_or xs k false) ≡ true) → every f i xs ≡ true
to f [] i h = refl
to f (x ∷ xs) i h =
    and_from (f i x) (every f (suc i) xs) (subst (λ (m : ℕ). f m x ≡ true) (add-zero i) (h 0 (omega arith)))
    (to f xs (suc i) (λ k l. subst (λ (m : ℕ). f m (slice_index_or xs k false) ≡ true) (add-suc i k ∙ sym (suc-add i k)) (h (suc k) (omega arith))))

wanted_from : (lo hi : ℕ) (want : Bool) (k : ℕ) (x : Bool) → (lo ≤ k → k ≤ hi → beq x want ≡ true) → wanted lo hi want k x ≡ true
wanted_from lo hi want k x h = grind (arith, nat_tests)

-- a range of entries that are all as wanted
pub all_wanted : (lo hi : ℕ) (want : Bool) (xs : List Bool) → ((k : ℕ) → lo ≤ k → k ≤ hi → slice_index_or xs k false ≡ want) → every (wanted lo hi want) 0 xs ≡ true
all_wanted lo hi want xs h =
    to (wanted lo hi want) xs 0
    (λ k l. subst (λ (m : ℕ). wanted lo hi want m (slice_index_or xs k false) ≡ true) (sym (zero-add k))
    (wanted_from lo hi want k (slice_index_or xs k false) (λ a b. (booleans_Decides (slice_index_or xs k false) want).1 (h k a b))))

-- one entry of the range that is not as wanted
pub not_wanted : (lo hi : ℕ) (want : Bool) (xs : List Bool) (k : ℕ) → k < length xs → lo ≤ k → k ≤ hi → beq (slice_index_or xs k false) want ≡ false → every (wanted lo hi want) 0 xs ≡ false
not_wanted lo hi want xs k l a b n =
    let f = wanted_use lo hi want k (slice_index_or xs k false) a b ∙ n in
    ⊎_elim (λ t. absurd (both_ways (wanted lo hi want k (slice_index_or xs k false)) f (every_at (wanted lo hi want) xs t k l))) (λ e. e)
    (cases_Bool (every (wanted lo hi want) 0 xs))

-- the entries of a range are tested alone
pub range_alone : (lo hi : ℕ) (want : Bool) (xs : List Bool) → lo ≤ hi → hi < length xs → list_all (λ x. beq x want) (take (hi + 1 - lo) (drop lo xs)) ≡ every (wanted lo hi want) 0 xs
range_alone lo hi want xs o n =
    let part = take (hi + 1 - lo) (drop lo xs) in
    let long : length part ≡ hi + 1 - lo = omega (arith, length-take (hi + 1 - lo) (drop lo xs), length-drop lo xs) in
    let read : (i : ℕ) (e : Bool) → i < length part → get_or part i e ≡ get_or xs (lo + i) false = λ i e l. get_or-take (hi + 1 - lo) (drop lo xs) i e (omega arith) ∙ get_or-drop lo xs i e ∙ get_or_default xs (lo + i) e false (omega arith) in
    let alone = Decides-by_and (λ x. beq x want) (λ x. x ≡ want) (list_all (λ x. beq x want)) (λ x. booleans_Decides x want) refl (λ _ _. refl) part in
    same_from_decides _ _ alone (
      λ t k e l. read k e l ∙ range_at lo hi want xs t n (lo + k) (omega arith) (omega arith),
      λ h. all_wanted lo hi want xs
          (λ k a b. let m : lo + (k - lo) ≡ k = omega arith in ap (λ (j : ℕ). get_or xs j false) (sym m) ∙ sym (read (k - lo) false (omega arith)) ∙ h (k - lo) false (omega arith)),
    )

-- the rule of a whole table, at each byte
pub rule_at : (p : ℕ → Bool) (xs : List Bool) (b : ℕ) → xs ≡ tabled p 0 256 → b < 256 → slice_index_or xs b false ≡ p b
rule_at p xs b e h = ap (λ (ys : List Bool). get_or ys b false) e ∙ tabled_at p 256 b h

tabled_is : (p : ℕ → Bool) (xs : List Bool) (i : ℕ) → ((k : ℕ) → k < length xs → slice_index_or xs k false ≡ p (i + k)) → xs ≡ tabled p i (length xs)
tabled_is p [] i h = refl
tabled_is p (x ∷ xs) i h =
    let head : x ≡ p i = h 0 (omega arith) ∙ ap p (add-zero i) in
    let tail : xs ≡ tabled p (suc i) (length xs) = tabled_is p xs (suc i) (λ k l. h (suc k) (omega arith) ∙ ap p (add-suc i k ∙ sym (suc-add i k))) in
    ap (λ (b : Bool). b ∷ xs) head ∙ ap (λ (ys : List Bool). p i ∷ ys) tail

-- a table is the one that its own entries give
pub own_rule : (xs : List Bool) → length xs ≡ 256 → xs ≡ tabled (λ b. get_or xs b false) 0 256
own_rule xs n =
    let p : ℕ → Bool = λ b. get_or xs b false in
    tabled_is p xs 0 (λ k l. ap p (sym (zero-add k))) ∙ ap (tabled p 0) n
