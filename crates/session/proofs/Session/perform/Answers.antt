use Rattle.std.proofs.Common.{rules}
use Rattle.session.specs.declared.Call.TheVariants as call
use Rattle.session.specs.Replies.{value_reply, unit_reply, fault_reply}
use Rattle.session.specs.Scans.{bytes_of}
use Rattle.session.proofs.Performing.{question}
use Rattle.session.proofs.Session.perform.Goals as goal

pub returns-in-Value : goal.returns-in-Value
returns-in-Value g c =
    let s = g.S.ValueStore in
    question s.weight (bytes_of c.args.text) c.args.call (call.Value c.in-Value.start) c.args.self.now (s.held c.args.store.now) _ (value_reply c.value.result) c.in-Value.is (search rules) c.value.ensures

pub returns-in-Unit : goal.returns-in-Unit
returns-in-Unit g c =
    let s = g.S.ValueStore in
    question s.weight (bytes_of c.args.text) c.args.call (call.Unit c.in-Unit.start c.in-Unit.index) c.args.self.now (s.held c.args.store.now) _ (unit_reply c.unit.result) c.in-Unit.is (search rules) c.unit.ensures

pub returns-in-FaultAt : goal.returns-in-FaultAt
returns-in-FaultAt g c =
    let s = g.S.ValueStore in
    question s.weight (bytes_of c.args.text) c.args.call (call.FaultAt c.in-FaultAt.index) c.args.self.now (s.held c.args.store.now) _ (fault_reply c.fault_at.result) c.in-FaultAt.is (search rules) c.fault_at.ensures
