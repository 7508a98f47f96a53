use Rattle.std.proofs.Common.{refl}
use Rattle.vc_switch.proofs.RequestMasks.{asked_first, routed_first}
use Rattle.vc_switch.proofs.Readiness.{ready_first}
use Rattle.vc_switch.proofs.ready_switch.ReadySwitch.new.Goals as goal

pub invariant_of-result : goal.invariant_of-result
invariant_of-result c = record {
  masks = ready_first c.in_ok-new.field-0 _ c.in_ok-new.ensures.seen refl refl refl;
  asked = asked_first c.in_ok-new.field-0 _ c.in_ok-new.ensures.seen c.new-2.ensures;
  routed = routed_first _ _ c.new-2.ensures;
}
