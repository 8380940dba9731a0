use Rattle.std.proofs.Common.{rules, arith, ◌≡◌, ◌∙◌, ap, not, ℕ, List, length, take, Option, Some, None, cond}
use Rattle.std.proofs.Math.Dec.{ltb}
use Rattle.std.proofs.lemmas.Iterator.Adapters.{YieldsList-from_bytes}
use Rattle.std.proofs.lemmas.Iterator.Search.{position_from_yields_List}
use Rattle.std.proofs.lemmas.List.Sums.{prefix_len-le-length}
use Rattle.std.specs.List.{position_or_len}
use Rattle.std.specs.Option.{unwrap_or}
use Rattle.replaying.proofs.PairLemmas.{pairs_end, place_is, boundary_by_digits}
use Rattle.replaying.specs.Words.{is_other}
use Rattle.replaying.proofs.words.digit_pairs.Goals as goal

found : (word : List ℕ) (r : Option ℕ) (n : ℕ) → r ≡ cond (ltb (position_or_len is_other word) (length word)) (Some (position_or_len is_other word)) None
    → n ≡ unwrap_or r (length word) → n ≡ position_or_len is_other word
found word r n e u = u ∙ ap (λ x. unwrap_or x (length word)) e ∙ place_is _ _ (prefix_len-le-length (λ x. not (is_other x)) word)

pub range-requires-clause-end_boundary : goal.range-requires-clause-end_boundary
range-requires-clause-end_boundary c =
    let at = position_from_yields_List is_other _ _ c.position.result c.position.ensures.ran (YieldsList-from_bytes c.args.word.now c.bytes.ensures.rest) (λ x b q k. search rules) in
    boundary_by_digits _ _ c.utf8.word (omega (arith, found c.args.word.now _ _ at c.unwrap_or-digits.ensures))

pub returns : goal.returns
returns c =
    let at = position_from_yields_List is_other _ _ c.position.result c.position.ensures.ran (YieldsList-from_bytes c.args.word.now c.bytes.ensures.rest) (λ x b q k. search rules) in
    rw (found c.args.word.now _ _ at c.unwrap_or-digits.ensures) at c.range.ensures.value ∙ ap (λ n. take n c.args.word.now) (pairs_end _)
