use Rattle.std.proofs.Common.{◌≡◌, Some, None, Err, arith, rules}
use Rattle.escapes.specs.Digits.{TakesHex}
use Rattle.escapes.proofs.Numerals.{took_none, took_more, took_end, took_small}
use Rattle.escapes.proofs.digits.hex_digits.Goals as goal

pub loop-init : goal.loop-init
loop-init c = took_none _

pub returns-in_err-digit : goal.returns-in_err-digit
returns-in_err-digit c =
    let h : TakesHex c.loop.digits None c.next.new.self = search rules in
    let (t, a) = took_end _ _ c.loop.value _ _ c.next.new.self c.loop.invariant h in
    let e : c.from_residual.result ≡ Err (record { next = c.next.new.self.site.at }) = search rules in
    rw e (c.loop.value, t.digits, omega (arith, t.count), a)

pub overflow_mul-value : goal.overflow_mul-value
overflow_mul-value c = omega (arith, took_small _ _ c.loop.value _ _ c.loop.invariant (omega arith))

pub overflow_add-value : goal.overflow_add-value
overflow_add-value c =
    let h : TakesHex c.loop.digits (Some c.in_ok-digit.digit) c.next.new.self = search rules in
    omega (arith, c.from.ensures, h.3, took_small _ _ c.loop.value _ _ c.loop.invariant (omega arith))

pub loop-preserved : goal.loop-preserved
loop-preserved c =
    let h : TakesHex c.loop.digits (Some c.in_ok-digit.digit) c.next.new.self = search rules in
    rw c.from.ensures (took_more _ _ c.loop.value _ _ _ _ c.loop.invariant h)

pub returns : goal.returns
returns c = rw c.place-2.ensures (c.loop.invariant.digits, omega (arith, c.loop.invariant.count))
