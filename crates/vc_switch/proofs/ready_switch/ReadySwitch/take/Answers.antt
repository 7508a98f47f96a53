use Rattle.vc_switch.specs.SwitchView.{seen}
use Rattle.vc_switch.proofs.RequestMasks.{came_same, asked_same}
use Rattle.vc_switch.proofs.Readiness.{ready_came, comes_else, told_is}
use Rattle.vc_switch.proofs.ready_switch.ReadySwitch.take.Goals as goal

pub invariant_of-self : goal.invariant_of-self
invariant_of-self c =
    let s = c.self.inside.switch in
    let t = c.take-taken.new.self in
    let one = comes_else (seen s) c.args.link c.args.word _ (seen t) c.take-taken.ensures.comes in
    let same = came_same (seen s) c.args.link c.args.word _ (seen t) c.take-taken.ensures.comes one in
    record {
      masks = ready_came s t c.args.link c.args.word c.told-self-inside.result _ c.self.inside.ready c.take-taken.ensures.kept c.take-taken.ensures.comes c.requires c.self.invariant.masks (record { it = told_is c.told-self-inside.ensures.it c.may_pass.ensures; others = c.told-self-inside.ensures.others });
      asked = asked_same s t c.self.inside.requests c.take-taken.ensures.kept same c.self.invariant.asked;
      routed = c.self.invariant.routed;
    }
