use Rattle.std.proofs.Common.{◌<◌, sym, ap, arith}
use Rattle.std.proofs.lemmas.Option.{slice_get_read}
use Rattle.vc_switch.specs.Switch.{SendsFct}
use Rattle.vc_switch.specs.State.{State, plan_of, limit_of, output_of}
use Rattle.vc_switch.proofs.ListChanges.{told}
use Rattle.vc_switch.proofs.Preservation.{link_in, switch_in}
use Rattle.vc_switch.proofs.Steps.{grants_fct, link_granted}
use Rattle.vc_switch.proofs.switch.Switch.grant.Goals as goal

pub invariant_of-self : goal.invariant_of-self
invariant_of-self c =
    let x = c.self.inside in
    let o : State = record { table = x.table; ranges = x.ranges.items; deletes = x.deletes.items; inputs = x.inputs.items; outputs = x.outputs.items; lost = x.lost } in
    let k = c.from.result in
    let a = c.index_mut.result.now in
    let y = c.grant.new.self in
    let within : k < 32 = omega arith in
    let here = slice_get_read x.inputs.items 32 k a (sym c.self.invariant.input_links) within c.index_mut.ensures.value in
    switch_in o k x.lost a y c.self.invariant here (link_granted (plan_of o) (limit_of x.inputs.items) a y (link_in o k a c.self.invariant here) c.grant.ensures.grants c.grant.ensures.rest) (ap (λ z. output_of z.bound) c.grant.ensures.rest)

pub returns-clause-grants : goal.returns-clause-grants
returns-clause-grants c =
    let x = c.self.inside in
    let o : State = record { table = x.table; ranges = x.ranges.items; deletes = x.deletes.items; inputs = x.inputs.items; outputs = x.outputs.items; lost = x.lost } in
    let k = c.from.result in
    let a = c.index_mut.result.now in
    let y = c.grant.new.self in
    let within : k < 32 = omega arith in
    let here = slice_get_read x.inputs.items 32 k a (sym c.self.invariant.input_links) within c.index_mut.ensures.value in
    told SendsFct o c.args.self.now k c.args.link _ c.self.view_is c.from.ensures (grants_fct o k a y here c.grant.ensures.grants c.grant.ensures.rest)
