use Rattle.vc_switch.specs.SwitchView.{seen}
use Rattle.vc_switch.specs.State.{plan_of}
use Rattle.vc_switch.proofs.RequestMasks.{sent_same, asked_same, asked_marked}
use Rattle.vc_switch.proofs.Readiness.{ready_sent, sent_inputs, sent_mark, ready_marked}
use Rattle.vc_switch.proofs.ready_switch.ReadySwitch.put.Goals as goal

pub invariant_of-self : goal.invariant_of-self
invariant_of-self c =
    let s = c.self.inside.switch in
    let t = c.put-token.new.self in
    let same = sent_inputs (plan_of s) (seen s) (seen t) c.args.output c.put-token.result c.in-Byte.is c.put-token.ensures.sends in
    record {
      masks = ready_sent s t c.self.inside.ready c.put-token.ensures.kept same c.self.invariant.masks;
      asked = asked_same s t c.self.inside.requests c.put-token.ensures.kept (sent_same (seen s) (seen t) same) c.self.invariant.asked;
      routed = c.self.invariant.routed;
    }

pub invariant_of-self-in-Eop : goal.invariant_of-self-in-Eop
invariant_of-self-in-Eop c =
    let s = c.self.inside.switch in
    let t = c.put-token.new.self in
    let sent = sent_mark (plan_of s) (seen s) (seen t) c.args.output c.put-token.result c.in-Eop.is c.put-token.ensures.sends in
    let masks = ready_marked s t c.in-Some.source c.args.output c.told-self-inside.result sent.0 c.self.inside.ready c.look.new.self c.put-token.ensures.kept sent.1 c.in-Some.ensures.1 c.self.invariant.masks c.look.ensures c.told-self-inside.ensures in
    record {
      masks = masks;
      asked = asked_marked s t c.in-Some.source c.args.output sent.0 c.self.inside.requests c.put-token.ensures.kept sent.1 c.in-Some.ensures.1 c.in-Some.ensures.0 c.self.invariant.asked;
      routed = c.asking-self-inside.ensures;
    }
