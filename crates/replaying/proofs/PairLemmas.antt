-- The digits in front of a word.
use Rattle.std.proofs.Common.{ℕ, zero, suc, ◌≡◌, ◌-◌, ◌*◌, ◌/◌, ◌%◌, ◌<◌, ◌≤◌, Bool, true, false, not, List, Some, None, cond, arith, refl, subst, add-one}
use Rattle.std.proofs.Math.Dec.{ltb}
use Rattle.std.proofs.Math.Nat.{div-add-mod}
use Rattle.std.proofs.lemmas.Bool.{ltb-false}
use Rattle.std.proofs.lemmas.List.Sums.{fails_before_first, prefix_len-le-length}
use Rattle.std.proofs.lemmas.Str.{IsCharBoundary-after_ascii, IsCharBoundary-start}
use Rattle.std.specs.List.{position_or_len}
use Rattle.std.specs.Option.{unwrap_or}
use Rattle.std.specs.Str.{IsCharBoundary, IsUtf8}
use Rattle.replaying.specs.Words.{is_other}

pub pairs_end : (n : ℕ) → n - n % 2 - 0 ≡ 2 * (n / 2)
pairs_end n = omega (arith, div-add-mod n 2)

pub place_is : (p l : ℕ) → p ≤ l → unwrap_or (cond (ltb p l) (Some p) None) l ≡ p
place_is p l h = place_by (ltb p l) refl where
  place_by : (b : Bool) → ltb p l ≡ b → unwrap_or (cond b (Some p) None) l ≡ p
  place_by true e = refl
  place_by false e = omega (arith, h, ltb-false p l e)

digit_is_ascii : (b : ℕ) → is_other b ≡ false → b < 128
digit_is_ascii b e = grind arith

-- each place up to the first that is no digit begins a character
pub boundary_by_digits : (word : List ℕ) (k : ℕ) → IsUtf8 word → k ≤ position_or_len is_other word → IsCharBoundary word k
boundary_by_digits word zero u h = IsCharBoundary-start word u
boundary_by_digits word (suc k) u h = subst (IsCharBoundary word) (add-one k)
    (IsCharBoundary-after_ascii word k u
    (omega (arith, h, prefix_len-le-length (λ x. not (is_other x)) word))
    (digit_is_ascii _ (fails_before_first is_other word k 0 (omega (arith, h)))))
