use Rattle.std.proofs.Common.{ℕ, ◌≡◌, ◌+◌, length, ◌≤◌, List, Bool, Bor, Ok, map, not}
use Rattle.std.specs.Prelude.{count_by}
use Rattle.std.specs.List.{FoldsTo}
use denote.Param.Always.{always_mut}
use Rattle.std.specs.Str.Iter.{lines_rest}
use Rattle.replaying.proofs.counts.replay.Given as goal

abbrev pub invariant-loop-line : goal.invariant-loop-line
invariant-loop-line g l =
    (goal.iterator-loop-line g).can_next l.line-iterator ×
    (goal.iterator-loop-line g).is_finite l.line-iterator ×
    (always_mut g.F.FnMut l.initial.agrees → always_mut g.F.FnMut l.agrees) ×
    (length l.yielded + length (lines_rest l.line-iterator) ≤ length l.text) ×
    (l.tally.agree + l.tally.differ ≡ length l.yielded) ×
    ((calls : List (Bor (List ℕ) × Bool)) × FoldsTo (λ p call q. goal.F-step g p call.0 (Ok call.1) q) l.fn.agrees calls l.agrees
    × (map (λ call. call.0.now) calls ≡ map (λ line. line.now) l.yielded)
    × (count_by (λ call. call.1) calls ≡ l.tally.agree) × (count_by (λ call. not call.1) calls ≡ l.tally.differ))
