use Rattle.std.proofs.Common.{◌+◌, Some, arith, rules}
use Rattle.escapes.specs.Digits.{TakesHex}
use Rattle.escapes.proofs.Numerals.{took_first, took_more, took_end, took_lift, took_fit}
use Rattle.escapes.proofs.digits.code_point.Goals as goal

pub loop-digit-init : goal.loop-digit-init
loop-digit-init c =
    let h : TakesHex (record { site = c.args.site }) (Some c.in_ok-first.first) c.next.new.self = search rules in
    rw c.from-value.ensures (1, took_first (record { site = c.args.site }) c.next.new.self c.in_ok-first.first h, omega arith, omega (arith, h.3))

pub returns-then-value-gt1114111 : goal.returns-then-value-gt1114111
returns-then-value-gt1114111 c =
    let (n, t, _, l) = c.loop-digit.invariant in
    let f = c.if-value-gt1114111.true in
    rw c.place.ensures (took_lift _ _ c.loop-digit.value n c.in-Some.digit _ c.next-in-loop-digit.new.self t l c.in-Some.ensures.steps (rw c.from.ensures at f))

pub loop-digit-preserved : goal.loop-digit-preserved
loop-digit-preserved c =
    let (n, t, _, _) = c.loop-digit.invariant in
    let f = c.if-value-gt1114111.false in
    rw c.from.ensures (n + 1, took_more _ _ c.loop-digit.value n _ _ c.next-in-loop-digit.new.self t c.in-Some.ensures.steps, omega arith, rw c.from.ensures at f)

pub returns : goal.returns
returns c =
    let (n, t, l, m) = c.loop-digit.invariant in
    let (u, a) = took_end _ _ c.loop-digit.value n _ c.next-in-loop-digit.new.self t c.in_default.ensures.steps in
    rw c.place-2.ensures (u.digits, took_fit _ _ c.loop-digit.value n c.next-in-loop-digit.new.self u l m, a)
