use Rattle.std.proofs.Common.{◌<◌, sym, refl, subst, length}
use Rattle.std.proofs.lemmas.Option.{slice_get_read, slice_get_within}
use Rattle.vc_tokens.specs.CodeTokens.{token}
use Rattle.vc_vcp.specs.Links.{Sends}
use Rattle.vc_vcp.specs.State.{State}
use Rattle.vc_vcp.proofs.ListChanges.{sends_token, told}
use Rattle.vc_vcp.proofs.vcp.Vcp.put.Goals as goal

pub returns-clause-sends : goal.returns-clause-sends
returns-clause-sends c =
    let x = c.self.inside in
    let o : State = record { outputs = x.outputs.items; inputs = x.inputs.items; outs = x.outs.items; ins = x.ins.items; strays = x.strays } in
    let k = c.from.result in
    let within : c.args.link < length x.outs.items = subst (λ z. c.args.link < length z.outs) (sym c.self.view_is) (slice_get_within c.args.self.now.outs c.args.link c.requires.out c.requires.here) in
    let here = slice_get_read x.outs.items (length x.outs.items) k c.index_mut.result.now refl (subst (λ z. z < length x.outs.items) (sym c.from.ensures) within) c.index_mut.ensures.value in
    told (λ a l b. Sends a l (token c.put.result) b) o c.args.self.now k c.args.link _ c.self.view_is c.from.ensures
    (sends_token o k c.index_mut.result.now c.put.new.self (token c.put.result) here c.put.ensures)
