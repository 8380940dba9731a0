use Rattle.std.proofs.Common.{rules, ◌≡◌, ◌+◌, ◌<◌, length, get_or, true, false, MatchOption, sym, subst, ◌∙◌}
use Rattle.std.specs.Str.{IsCharBoundary}
use Rattle.pieces.specs.Pieces.{scan_of}
use Rattle.look.specs.Looked.{opens, suits, opener}
use Rattle.look.proofs.Opens.{opened}
use Rattle.look.proofs.literal.Literal.find.Goals as goal

pub invariant_of-result-clause-opened : goal.invariant_of-result-clause-opened
invariant_of-result-clause-opened c =
    let b : get_or c.args.text.bytes.now c.args.start 0 ≡ c.in_ok-byte.byte = search rules in
    let e = c.in_ok-opening.ensures.ok_part in
    let m = subst (λ z. MatchOption z (opens c.args.scan c.in_ok-byte.byte ≡ false) (λ o. (opens c.args.scan c.in_ok-byte.byte ≡ true) × (c.in_ok-byte.byte ≡ opener o) × (suits c.args.scan (scan_of o) ≡ true))) e c.opening_at.ensures in
    subst (λ z. get_or z c.args.start 0 ≡ opener c.in_ok-opening.opening) (sym (c.moved-inside.ensures.text ∙ c.new.ensures.0)) (b ∙ m.1)

pub invariant_of-result-clause-behind : goal.invariant_of-result-clause-behind
invariant_of-result-clause-behind c =
    let bs = c.args.text.bytes.now in
    let l : c.args.start < length bs = search rules in
    let b : get_or bs c.args.start 0 ≡ c.in_ok-byte.byte = search rules in
    let e = c.in_ok-opening.ensures.ok_part in
    let m = subst (λ z. MatchOption z (opens c.args.scan c.in_ok-byte.byte ≡ false) (λ o. (opens c.args.scan c.in_ok-byte.byte ≡ true) × (c.in_ok-byte.byte ≡ opener o) × (suits c.args.scan (scan_of o) ≡ true))) e c.opening_at.ensures in
    c.moved-inside.ensures.moves (subst (λ z. IsCharBoundary z (c.args.start + 1)) (sym c.new.ensures.0) (opened bs c.args.start c.in_ok-opening.opening c.args.text.well l (b ∙ m.1)).behind.boundary)
