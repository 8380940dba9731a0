use Rattle.std.proofs.Common.{◌≡◌, true, Some, Err, sym, ap, ◌∙◌, arith, rules, is_some}
use Rattle.std.proofs.lemmas.Bool.{lt-ltb}
use Rattle.std.proofs.lemmas.Result.{err_from_is_err_and}
use Rattle.refusals.specs.declared.Refusal.{Refusal}
use Rattle.refusals.specs.Numbers.{number_of, numbered}
use Rattle.slots.specs.Entries.{has_slot}
use Rattle.slots.specs.Views.{entries_of, room_of}
use Rattle.grammar.specs.Outcome.{units_read}
use Rattle.session.proofs.Filing.{put_by, unput_by, unfiled, filed}
use Rattle.session.proofs.scans.file.Goals as goal

pub returns-in_err-number : goal.returns-in_err-number
returns-in_err-number g c r reads none =
    let s = g.S.ValueStore in
    let h = s.held c.args.store.now in
    let some : is_some c.args.seen.look.units ≡ true = search rules in
    let free : has_slot (entries_of c.args.entries.now) (room_of c.args.entries.now) ≡ true = lt-ltb _ _ (omega arith) in
    let p = err_from_is_err_and c.from_residual.result c.from_residual.ensures.1 in
    unfiled g.V.Entry.holds s.weight c.args.entries.now h c.args.seen.look.token.start (units_read r) free c.from_residual.result p.0 _ p.1
    (unput_by s.weight h (units_read r) (number_of p.0) _ (sym (c.args.seen.cooked r reads) ∙ some)
    (λ us e. let q = c.put_units.ensures r us reads e in (ap (λ (z : Refusal). Err (number_of z)) p.2 ∙ ap numbered (sym c.in_err-number.was) ∙ q.0, q.1)))

pub returns : goal.returns
returns g c r reads none =
    let s = g.S.ValueStore in
    let h = s.held c.args.store.now in
    let some : is_some c.args.seen.look.units ≡ true = search rules in
    let free : has_slot (entries_of c.args.entries.now) (room_of c.args.entries.now) ≡ true = lt-ltb _ _ (omega arith) in
    filed g.V.Entry.holds s.weight c.args.entries.now h c.args.seen.look.token.start (units_read r) free c.insert-2.result c.insert-2.new.self (s.held c.put_units.new.store) (Some c.in_ok-number.number) c.of-2.result c.of-2.ensures none
    (put_by s.weight h (units_read r) c.in_ok-number.number _ (sym (c.args.seen.cooked r reads) ∙ some) (λ us e. let q = c.put_units.ensures r us reads e in (ap numbered (sym c.in_ok-number.was) ∙ q.0, q.1)))
    c.insert-2.ensures.answer c.insert-2.ensures.after c.insert-2.ensures.past c.insert-2.ensures.room
