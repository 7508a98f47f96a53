use Rattle.std.proofs.Common.{◌≡◌, ◌<◌, ◌≤◌, sym, subst, arith, true, slice_get, Some}
use Rattle.std.proofs.lemmas.Option.{slice_get_read}
use Rattle.vc_tokens.specs.Tokens.{Fct}
use Rattle.vc_vcp.specs.Links.{Comes}
use Rattle.vc_vcp.specs.State.{State}
use Rattle.vc_vcp.specs.VcpView.{seen}
use Rattle.vc_vcp.proofs.ListWrites.{same_read}
use Rattle.vc_vcp.proofs.ListChanges.{fct_due, fct_dropped, told}
use Rattle.vc_vcp.proofs.vcp.Vcp.accept_credit.Goals as goal

pub returns-then-may_credit-clause-comes : goal.returns-then-may_credit-clause-comes
returns-then-may_credit-clause-comes c =
    let x = c.self.inside in
    let o : State = record { outputs = x.outputs.items; inputs = x.inputs.items; outs = x.outs.items; ins = x.ins.items; strays = x.strays } in
    let k = c.from-out.result in
    let within : k < 4 = omega arith in
    let read = slice_get_read x.outs.items 4 k c.index.result.now (sym c.self.invariant.four_out) within c.index.ensures in
    let here = slice_get_read x.outs.items 4 k c.index_mut.result.now (sym c.self.invariant.four_out) within c.index_mut.ensures.value in
    let low = subst (λ z. z.sender.credit ≤ 8) (same_read x.outs.items k c.index.result.now c.index_mut.result.now read here) (c.may_credit.ensures.0 c.if-may_credit.true) in
    told (λ a l b. Comes a l Fct b) o c.args.self.now k c.args.link _ c.self.view_is c.from-out.ensures
    (fct_due o k c.index_mut.result.now c.credit.new.self here low c.credit.ensures)

pub returns-else-may_credit-clause-comes : goal.returns-else-may_credit-clause-comes
returns-else-may_credit-clause-comes c =
    let x = c.self.inside in
    let s = c.args.self.now in
    let k = c.from-out.result in
    let within : k < 4 = omega arith in
    let read = slice_get_read x.outs.items 4 k c.index.result.now (sym c.self.invariant.four_out) within c.index.ensures in
    let here = subst (λ z. slice_get z.outs c.args.link ≡ Some c.index.result.now) c.self.view_is (subst (λ j. slice_get x.outs.items j ≡ Some c.index.result.now) c.from-out.ensures read) in
    subst (λ z. Comes (seen s) c.args.link Fct (seen z)) (sym c.drop_one.ensures)
    (fct_dropped s c.args.link c.index.result.now here (λ low. (let t : c.may_credit.result ≡ true = c.may_credit.ensures.1 low in absurd (cc))))
