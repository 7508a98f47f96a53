use Rattle.std.proofs.Common.{◌<◌, sym, subst, slice_set, IfSome}
use Rattle.std.proofs.lemmas.Option.{slice_get_read}
use Rattle.vc_vcp.specs.Links.{LeavesWhole}
use Rattle.vc_vcp.specs.VcpView.{seen}
use Rattle.vc_vcp.specs.State.{State}
use Rattle.vc_vcp.proofs.LeavingWhole.{told_can, whole_if, whole_iff}
use Rattle.vc_vcp.proofs.vcp.Vcp.next_out.Goals as goal

pub returns-clause-can : goal.returns-clause-can
returns-clause-can c =
    let x = c.self.inside in
    let o : State = record { outputs = x.outputs.items; inputs = x.inputs.items; outs = x.outs.items; ins = x.ins.items; strays = x.strays } in
    let within : c.from.result < 4 = subst (λ n. c.from.result < n) c.links.ensures.four (subst (λ k. k < c.links.result) (sym c.from.ensures) c.if-link-links.false) in
    let q = c.index_mut.result.now in
    let here = slice_get_read x.outs.items 4 c.from.result q (sym c.self.invariant.four_out) within c.index_mut.ensures.value in
    told_can o c.args.self.now c.from.result c.args.link c.take_front.result c.self.view_is c.from.ensures (whole_iff o c.from.result q c.take_front.new.self c.take_front.result here c.take_front.ensures.takes c.take_front.ensures.none)

pub returns-clause-leaves : goal.returns-clause-leaves
returns-clause-leaves c =
    let x = c.self.inside in
    let o : State = record { outputs = x.outputs.items; inputs = x.inputs.items; outs = x.outs.items; ins = x.ins.items; strays = x.strays } in
    let within : c.from.result < 4 = subst (λ n. c.from.result < n) c.links.ensures.four (subst (λ k. k < c.links.result) (sym c.from.ensures) c.if-link-links.false) in
    let q = c.index_mut.result.now in
    let here = slice_get_read x.outs.items 4 c.from.result q (sym c.self.invariant.four_out) within c.index_mut.ensures.value in
    let new : State = record o { outs = slice_set x.outs.items c.from.result c.take_front.new.self } in
    subst (λ z. IfSome c.take_front.result (λ p. LeavesWhole (seen z) c.args.link p (seen new))) c.self.view_is
    (subst (λ k. IfSome c.take_front.result (λ p. LeavesWhole (seen o) k p (seen new))) c.from.ensures
    (whole_if o c.from.result q c.take_front.new.self c.take_front.result here c.take_front.ensures.takes))
