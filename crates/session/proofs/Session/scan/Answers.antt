use Rattle.std.proofs.Common.{◌≤◌, arith, rules}
use Rattle.std.proofs.lemmas.Result.{err_from_is_err_and}
use Rattle.store.specs.Held.{weighed}
use Rattle.session.specs.Scans.{bytes_of}
use Rattle.session.proofs.Looking.{passed_on, unseen, too_many, done, undone}
use Rattle.session.proofs.Session.scan.Goals as goal

pub returns-in_err-seen : goal.returns-in_err-seen
returns-in_err-seen g c =
    let s = g.S.ValueStore in
    let p = err_from_is_err_and c.from_residual.result c.from_residual.ensures.1 in
    passed_on s.weight (bytes_of c.args.text) c.args.scan c.args.start c.args.self.now (s.held c.args.store.now) c.from_residual.result p.0 _ c.args.self.now (s.held c.args.store.now) p.1 p.2
    (unseen s.weight s.lawful.nothing (bytes_of c.args.text) c.args.scan c.args.start c.args.self.now (s.held c.args.store.now) _ c.in_err-seen.ensures)

pub returns-then-seen-free_records : goal.returns-then-seen-free_records
returns-then-seen-free_records g c =
    let s = g.S.ValueStore in
    too_many s.weight s.lawful.nothing (bytes_of c.args.text) c.args.scan c.args.start c.args.self.now (s.held c.args.store.now) c.in_ok-seen.seen c.in_ok-seen.ensures
    c.free_records.result c.free_records.ensures c.if-seen-free_records.true

pub returns-in_err-keep : goal.returns-in_err-keep
returns-in_err-keep g c =
    let s = g.S.ValueStore in
    let h = s.held c.args.store.now in
    let sound = s.lawful.sound c.args.store.now in
    let light : weighed s.weight h.values ≤ h.capacity = omega (arith, sound.light) in
    let p = err_from_is_err_and c.from_residual-in_err-keep.result c.from_residual-in_err-keep.ensures.1 in
    passed_on s.weight (bytes_of c.args.text) c.args.scan c.args.start c.args.self.now h c.from_residual-in_err-keep.result p.0 _ _ _ p.1 p.2
    (undone s.weight s.lawful.nothing (bytes_of c.args.text) c.args.scan c.args.start c.args.self.now h c.in_ok-seen.seen c.in_ok-seen.ensures
    c.free_records.result c.free_records.ensures c.if-seen-free_records.false light _ _ _ _ c.in_err-keep.was (search rules))

pub returns : goal.returns
returns g c =
    let s = g.S.ValueStore in
    let h = s.held c.args.store.now in
    let sound = s.lawful.sound c.args.store.now in
    let light : weighed s.weight h.values ≤ h.capacity = omega (arith, sound.light) in
    done s.weight s.lawful.nothing (bytes_of c.args.text) c.args.scan c.args.start c.args.self.now h c.in_ok-seen.seen c.in_ok-seen.ensures
    c.free_records.result c.free_records.ensures c.if-seen-free_records.false light _ _ _ c.record.ensures _ c.in_ok-keep.was (search rules)
