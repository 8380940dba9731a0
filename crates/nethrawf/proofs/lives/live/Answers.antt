use Rattle.std.proofs.Common.{◌≡◌, length, inl, refl, subst, rules}
use Rattle.session.specs.Scans.{bytes_of}
use Rattle.session.specs.Views.{lent}
use Rattle.nethrawf.specs.Exports.{LivedThrough, limits}
use Rattle.nethrawf.proofs.Responding.{lived_through}
use Rattle.nethrawf.proofs.lives.live.Goals as goal

pub returns : goal.returns
returns g c none =
    let s = g.S.ValueStore in
    let h = s.held c.args.store.now in
    let strings : length c.as_mut_slice.result.now ≡ c.args.room.strings = search rules in
    let templates : length c.as_mut_slice-2.result.now ≡ c.args.room.templates = search rules in
    let records : length c.as_mut_slice-3.result.now ≡ c.args.room.records = search rules in
    let room : lent (length c.as_mut_slice.result.now) (length c.as_mut_slice-2.result.now) (length c.as_mut_slice-3.result.now) h ≡ limits c.args.room h.places h.capacity = (λ j. lent (strings j) (templates j) (records j) h) in
    let text = c.in_ok-text.ensures in
    let lived = lived_through s.weight (bytes_of c.in_ok-text.text) _ _ h.values c.args.requests.now c.args.responses.now c.respond_all.new.responses c.new-session.result c.respond_all.new.session (s.held c.new-session.new.store) (s.held c.respond_all.new.store) room none (c.new-session.ensures.lives (bytes_of c.in_ok-text.text)) c.respond_all.ensures in
    inl (refl, text.0, subst (λ z. LivedThrough s.weight (limits c.args.room h.places h.capacity) z c.args.requests.now c.args.responses.now c.respond_all.new.responses) text.1 lived)
