use Rattle.std.proofs.Common.{◌≡◌, ◌<◌, sym, ◌∙◌, subst, slice_get, Some}
use Rattle.std.proofs.lemmas.Option.{slice_get_read}
use Rattle.vc_switch.specs.State.{IsSwitch}
use Rattle.vc_switch.proofs.ListChanges.{bound_is}
use Rattle.vc_switch.proofs.switch.Switch.bound_to.Goals as goal

pub returns-in-Some-bound : goal.returns-in-Some-bound
returns-in-Some-bound c =
    let s = c.args.self.now in
    let x = c.self.inside in
    let a = c.index.result.now in
    let l = c.in-Some.source in
    let low = subst (λ k. k < 32) (sym c.from.ensures) c.in-Some.ensures.0 in
    let read = slice_get_read x.inputs.items 32 c.from.result a (sym c.self.invariant.input_links) low c.index.ensures in
    let here = subst (λ z. slice_get z.inputs l ≡ Some a) c.self.view_is (subst (λ j. slice_get x.inputs.items j ≡ Some a) c.from.ensures read) in
    let w = subst IsSwitch c.self.view_is c.self.invariant in
    record { input = a; here = here; bound = c.in-Some-bound.is; source = w.paired.ins l c.args.output (sym (bound_is s l) ∙ c.in-Some.ensures.1) }
