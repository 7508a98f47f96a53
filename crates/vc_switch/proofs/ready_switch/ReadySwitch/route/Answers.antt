use Rattle.vc_switch.proofs.RequestMasks.{asked_routed}
use Rattle.vc_switch.proofs.Readiness.{ready_routed}
use Rattle.vc_switch.proofs.ready_switch.ReadySwitch.route.Goals as goal

pub invariant_of-self : goal.invariant_of-self
invariant_of-self c =
    let s = c.self.inside.switch in
    let t = c.route.new.self in
    let masks = ready_routed s t c.args.input c.args.output c.told-self-inside.result c.self.inside.ready c.look.new.self c.route.ensures.kept c.route.ensures.routes c.self.invariant.masks c.look.ensures c.told-self-inside.ensures in
    let now = asked_routed s t c.args.input c.args.output c.self.inside.requests c.set.new.self c.route.ensures.kept c.route.ensures.routes c.self.invariant.asked c.set.ensures.it c.set.ensures.others in
    record {
      masks = masks;
      asked = now;
      routed = c.asking-self-inside.ensures;
    }
