use Rattle.std.proofs.Common.{◌≡◌}
use Rattle.std.specs.List.{AllByRecursion, range_with_len}
use Rattle.vc_plan.specs.declared.plan.Plan.{Plan}
use Rattle.vc_core.specs.Choices.{AreThose, HasEvent, MayMakeOne}
use Rattle.vc_core.specs.State.{shown, state_of, IsNetworkOf}
use Rattle.vc_core.proofs.network.Network.list_ready.Given as goal

abbrev pub invariant-loop-actor : goal.invariant-loop-actor
invariant-loop-actor l = record {
  same : state_of l.self ≡ state_of l.fn.self;
  ready : (p : Plan) → IsNetworkOf p (state_of l.fn.self) → AreThose (HasEvent p (shown (state_of l.fn.self))) (range_with_len 0 l.actor) l.ready.items;
  may : (p : Plan) → IsNetworkOf p (state_of l.fn.self) → AllByRecursion (MayMakeOne (state_of l.fn.self)) l.ready.items;
}
