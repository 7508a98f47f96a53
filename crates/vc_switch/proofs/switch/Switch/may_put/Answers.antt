use Rattle.std.proofs.Common.{◌≡◌, ◌<◌, sym, ap, ◌∙◌, subst, slice_get, Some}
use Rattle.std.proofs.lemmas.Option.{slice_get_read}
use Rattle.vc_switch.specs.State.{IsSwitch}
use Rattle.vc_switch.proofs.Beyond.{sourced_within}
use Rattle.vc_switch.proofs.ListWrites.{read_there}
use Rattle.vc_switch.proofs.Puts.{put_iff, no_credit}
use Rattle.vc_switch.proofs.switch.Switch.may_put.Goals as goal

pub returns-then-may_send : goal.returns-then-may_send
returns-then-may_send c =
    let s = c.args.self.now in
    let x = c.self.inside in
    let w = subst IsSwitch c.self.view_is c.self.invariant in
    let t = c.in-Some.ensures in
    let less = sourced_within s c.args.output c.in-Some.source w t.source in
    let within : c.from.result < 32 = subst (λ k. k < 32) (sym c.from.ensures) less in
    let p = c.index.result.now in
    let reads = slice_get_read x.outputs.items 32 c.from.result p (sym c.self.invariant.output_links) within c.index.ensures in
    let there = subst (λ z. slice_get z.outputs c.args.output ≡ Some p) c.self.view_is (subst (λ j. slice_get x.outputs.items j ≡ Some p) c.from.ensures reads) in
    let a = c.index-then-may_send.result.now in
    let at = subst (λ j. slice_get x.inputs.items j ≡ Some t.input) (sym c.from-then-may_send.ensures) (subst (λ z. slice_get z.inputs c.in-Some.source ≡ Some t.input) (sym c.self.view_is) t.here) in
    let here = read_there x.inputs.items c.from-then-may_send.result t.input a at c.index-then-may_send.ensures in
    put_iff s c.args.output c.in-Some.source c.in-Some.bound a p c.has_next.result w t (t.here ∙ ap Some here) there (c.may_send.ensures.0 c.if-may_send.true) c.has_next.ensures

pub returns-else-may_send : goal.returns-else-may_send
returns-else-may_send c =
    let s = c.args.self.now in
    let x = c.self.inside in
    let w = subst IsSwitch c.self.view_is c.self.invariant in
    let t = c.in-Some.ensures in
    let less = sourced_within s c.args.output c.in-Some.source w t.source in
    let within : c.from.result < 32 = subst (λ k. k < 32) (sym c.from.ensures) less in
    let p = c.index.result.now in
    let reads = slice_get_read x.outputs.items 32 c.from.result p (sym c.self.invariant.output_links) within c.index.ensures in
    let there = subst (λ z. slice_get z.outputs c.args.output ≡ Some p) c.self.view_is (subst (λ j. slice_get x.outputs.items j ≡ Some p) c.from.ensures reads) in
    no_credit s c.args.output c.in-Some.source c.in-Some.bound p c.may_send.result w t there c.may_send.ensures c.if-may_send.false
