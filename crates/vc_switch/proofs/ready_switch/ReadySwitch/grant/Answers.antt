use Rattle.std.proofs.Common.{sym, subst}
use Rattle.vc_switch.specs.Private.Requests.{AreRouted}
use Rattle.vc_switch.specs.SwitchView.{seen}
use Rattle.vc_switch.proofs.RequestMasks.{granted_same, asked_same}
use Rattle.vc_switch.proofs.Readiness.{ready_else, grants_else}
use Rattle.vc_switch.proofs.ready_switch.ReadySwitch.grant.Goals as goal

pub invariant_of-self : goal.invariant_of-self
invariant_of-self c =
    let s = c.self.inside.switch in
    let t = c.grant.new.self in
    let one = grants_else (seen s) c.args.link (seen t) c.grant.ensures.grants in
    record {
      masks = ready_else s t c.args.link c.self.inside.ready c.look.new.self c.grant.ensures.kept one c.self.invariant.masks c.look.ensures;
      asked = asked_same s t c.self.inside.requests c.grant.ensures.kept (granted_same (seen s) c.args.link (seen t) c.grant.ensures.grants one) c.self.invariant.asked;
      routed = subst (λ m. AreRouted c.self.inside.requests m c.self.inside.routes) (sym c.look.ensures.puts) c.self.invariant.routed;
    }
