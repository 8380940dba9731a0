use Rattle.std.proofs.Common.{rules}
use Rattle.session.specs.declared.Session.{Session}
use Rattle.session.proofs.Goes.{makes, memory_is}
use Rattle.session.proofs.Session.new.Goals as goal

pub returns-clause-lives : goal.returns-clause-lives
returns-clause-lives g c =
    let s = g.S.ValueStore in
    let x : Session = record { strings = c.new.result; templates = c.new-2.result; faults = c.new-3.result } in
    makes s.weight x (s.held c.args.store.now) _ c.args.strings.now c.args.templates.now c.args.records.now (search rules)
    (memory_is x _ _ _ c.new.ensures.slots c.new-2.ensures.slots c.new-3.ensures.records) c.new-3.ensures.empty c.new.ensures.empty c.new-2.ensures.empty
