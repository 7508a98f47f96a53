use Rattle.std.proofs.Common.{subst}
use Rattle.vc_switch.specs.State.{State, IsSwitch}
use Rattle.vc_switch.proofs.Beyond.{grant_there}
use Rattle.vc_switch.proofs.Enablement.{input_read}
use Rattle.vc_switch.proofs.switch.Switch.may_grant.Goals as goal

pub returns-then-link-lt-LINKS : goal.returns-then-link-lt-LINKS
returns-then-link-lt-LINKS c =
    let x = c.self.inside in
    let o : State = record { table = x.table; ranges = x.ranges.items; deletes = x.deletes.items; inputs = x.inputs.items; outputs = x.outputs.items; lost = x.lost } in
    let read = input_read o c.args.self.now c.from.result c.args.link c.index.result.now c.self.view_is c.from.ensures c.self.invariant.input_links c.if-link-lt-LINKS.true c.index.ensures in
    grant_there c.args.self.now c.args.link c.index.result.now c.may_grant.result (subst IsSwitch c.self.view_is c.self.invariant) read.0 c.may_grant.ensures
