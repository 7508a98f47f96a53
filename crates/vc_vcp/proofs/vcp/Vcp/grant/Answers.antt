use Rattle.std.proofs.Common.{◌<◌, sym, refl, subst, length}
use Rattle.std.proofs.lemmas.Option.{slice_get_read, slice_get_within}
use Rattle.vc_vcp.specs.Links.{SendsFct}
use Rattle.vc_vcp.specs.State.{State}
use Rattle.vc_vcp.proofs.ListChanges.{grants_fct, told}
use Rattle.vc_vcp.proofs.vcp.Vcp.grant.Goals as goal

pub returns-clause-grants : goal.returns-clause-grants
returns-clause-grants c =
    let x = c.self.inside in
    let o : State = record { outputs = x.outputs.items; inputs = x.inputs.items; outs = x.outs.items; ins = x.ins.items; strays = x.strays } in
    let k = c.from.result in
    let within : c.args.link < length x.ins.items = subst (λ z. c.args.link < length z.ins) (sym c.self.view_is) (slice_get_within c.args.self.now.ins c.args.link c.requires.into c.requires.here) in
    let here = slice_get_read x.ins.items (length x.ins.items) k c.index_mut.result.now refl (subst (λ z. z < length x.ins.items) (sym c.from.ensures) within) c.index_mut.ensures.value in
    told SendsFct o c.args.self.now k c.args.link _ c.self.view_is c.from.ensures
    (grants_fct o k c.index_mut.result.now c.grant.new.self here c.grant.ensures.grants c.grant.ensures.rest)
