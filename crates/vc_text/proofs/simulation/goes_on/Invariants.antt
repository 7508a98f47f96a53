use Rattle.std.proofs.Common.{◌≡◌, ℕ, ◌<◌}
use Rattle.vc_plan.specs.declared.plan.Plan.{Plan}
use Rattle.vc_core.specs.State.{state_of, IsNetworkOf}
use Rattle.vc_core.specs.Private.Turns.{Rests}
use Rattle.vc_text.proofs.simulation.goes_on.Given as goal

abbrev pub invariant-loop-actor : goal.invariant-loop-actor
invariant-loop-actor l = record {
  same : state_of l.network ≡ state_of l.fn.network;
  rest : (p : Plan) → IsNetworkOf p (state_of l.fn.network) → (k : ℕ) → k < l.actor → Rests p (state_of l.fn.network) k;
}
