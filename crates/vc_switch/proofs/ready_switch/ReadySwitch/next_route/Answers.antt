use Rattle.std.proofs.Common.{subst}
use Rattle.vc_switch.proofs.RequestMasks.{NextRoute, NoRoute, least_route, no_output, no_route}
use Rattle.vc_switch.proofs.ready_switch.ReadySwitch.next_route.Goals as goal

pub returns-in_err-input : goal.returns-in_err-input
returns-in_err-input c =
    let x = c.self.inside in
    rw c.from_residual.ensures (subst NoRoute c.self.view_is (no_route x.switch x.ready x.requests x.routes c.self.invariant c.in_err-input.ensures))

pub returns-in_err-output : goal.returns-in_err-output
returns-in_err-output c =
    let x = c.self.inside in
    let low = c.in_ok-input.ensures in
    absurd (no_output x.switch x.ready x.requests x.routes c.in_ok-input.input c.of.result c.minus.result c.self.invariant low.0 low.1.0 c.of.ensures c.minus.ensures c.in_err-output.ensures)

pub returns : goal.returns
returns c =
    let x = c.self.inside in
    subst (λ s. NextRoute s c.in_ok-input.input c.in_ok-output.output) c.self.view_is
    (least_route x.switch x.ready x.requests x.routes c.in_ok-input.input c.in_ok-output.output c.of.result c.minus.result c.self.invariant c.in_ok-input.ensures c.of.ensures c.minus.ensures c.in_ok-output.ensures)
