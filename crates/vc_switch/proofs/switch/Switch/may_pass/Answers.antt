use Rattle.std.proofs.Common.{subst, arith}
use Rattle.std.proofs.lemmas.Bool.{ltb-true}
use Rattle.vc_switch.specs.State.{State, IsSwitch}
use Rattle.vc_switch.proofs.Beyond.{no_pass}
use Rattle.vc_switch.proofs.Enablement.{input_read, pass_iff}
use Rattle.vc_switch.proofs.switch.Switch.may_pass.Goals as goal

pub returns-then-link-lt-LINKS : goal.returns-then-link-lt-LINKS
returns-then-link-lt-LINKS c =
    let x = c.self.inside in
    let o : State = record { table = x.table; ranges = x.ranges.items; deletes = x.deletes.items; inputs = x.inputs.items; outputs = x.outputs.items; lost = x.lost } in
    let read = input_read o c.args.self.now c.from.result c.args.link c.index.result.now c.self.view_is c.from.ensures c.self.invariant.input_links c.if-link-lt-LINKS.true c.index.ensures in
    pass_iff c.args.self.now c.args.link c.index.result.now c.may_pass.result (subst IsSwitch c.self.view_is c.self.invariant) read.0 c.may_pass.ensures

pub returns-else-link-lt-LINKS : goal.returns-else-link-lt-LINKS
returns-else-link-lt-LINKS c =
    let past = c.if-link-lt-LINKS.false in (
      λ t. absurd (let less = ltb-true c.args.link 32 t in omega (arith, past, less)),
      λ can. absurd (no_pass c.args.self.now c.args.link (subst IsSwitch c.self.view_is c.self.invariant) (omega (arith, past)) can),
    )
