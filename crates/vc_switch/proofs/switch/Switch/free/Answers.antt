use Rattle.std.proofs.Common.{◌∙◌, ap, subst}
use Rattle.vc_switch.specs.State.{State, IsSwitch}
use Rattle.vc_switch.proofs.Beyond.{free_there}
use Rattle.vc_switch.proofs.ListWrites.{got}
use Rattle.vc_switch.proofs.switch.Switch.free.Goals as goal

pub returns-in-Some : goal.returns-in-Some
returns-in-Some c =
    let s = c.args.self.now in
    let here = got s.outputs c.deref.result.now c.from.result c.args.link _ (c.deref.ensures.value ∙ ap (λ (z : State). z.outputs) c.self.view_is) c.from.ensures c.in-Some.ensures.lookup.0 c.in-Some.ensures.lookup.1 in
    free_there s c.args.link _ c.is_free.result (subst IsSwitch c.self.view_is c.self.invariant) here c.is_free.ensures
