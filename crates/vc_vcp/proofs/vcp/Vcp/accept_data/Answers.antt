use Rattle.std.proofs.Common.{◌≡◌, ◌<◌, sym, subst, arith, true, slice_get, Some}
use Rattle.std.proofs.lemmas.Option.{slice_get_read}
use Rattle.vc_tokens.specs.CodeTokens.{token}
use Rattle.vc_vcp.specs.Links.{Comes}
use Rattle.vc_vcp.specs.State.{State}
use Rattle.vc_vcp.specs.VcpView.{seen}
use Rattle.vc_vcp.proofs.ListWrites.{same_read}
use Rattle.vc_vcp.proofs.ListChanges.{data_due, data_dropped, told}
use Rattle.vc_vcp.proofs.vcp.Vcp.accept_data.Goals as goal

pub returns-then-is_promised-clause-comes : goal.returns-then-is_promised-clause-comes
returns-then-is_promised-clause-comes c =
    let x = c.self.inside in
    let o : State = record { outputs = x.outputs.items; inputs = x.inputs.items; outs = x.outs.items; ins = x.ins.items; strays = x.strays } in
    let k = c.from-into.result in
    let within : k < 4 = omega arith in
    let read = slice_get_read x.ins.items 4 k c.index.result.now (sym c.self.invariant.four_in) within c.index.ensures in
    let here = slice_get_read x.ins.items 4 k c.index_mut.result.now (sym c.self.invariant.four_in) within c.index_mut.ensures.value in
    let place = subst (λ z. 0 < z.receiver.promised) (same_read x.ins.items k c.index.result.now c.index_mut.result.now read here) (c.is_promised.ensures.0 c.if-is_promised.true) in
    told (λ a l b. Comes a l (token c.args.came) b) o c.args.self.now k c.args.link _ c.self.view_is c.from-into.ensures
    (data_due o k c.index_mut.result.now c.accept.new.self (token c.args.came) c.requires.place here place c.accept.ensures)

pub returns-else-is_promised-clause-comes : goal.returns-else-is_promised-clause-comes
returns-else-is_promised-clause-comes c =
    let x = c.self.inside in
    let s = c.args.self.now in
    let k = c.from-into.result in
    let within : k < 4 = omega arith in
    let read = slice_get_read x.ins.items 4 k c.index.result.now (sym c.self.invariant.four_in) within c.index.ensures in
    let here = subst (λ z. slice_get z.ins c.args.link ≡ Some c.index.result.now) c.self.view_is (subst (λ j. slice_get x.ins.items j ≡ Some c.index.result.now) c.from-into.ensures read) in
    subst (λ z. Comes (seen s) c.args.link (token c.args.came) (seen z)) (sym c.drop_one.ensures)
    (data_dropped s c.args.link c.index.result.now (token c.args.came) c.requires.place here (λ place. (let t : c.is_promised.result ≡ true = c.is_promised.ensures.1 place in absurd (cc))))
