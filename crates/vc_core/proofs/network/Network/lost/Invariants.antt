use Rattle.std.proofs.Common.{◌≡◌, List, take}
use Rattle.std.specs.List.{sum_by}
use Rattle.vc_actor.specs.Parts.{lost_of, saturated}
use Rattle.vc_plan.specs.declared.plan.Plan.{Plan}
use Rattle.vc_core.specs.Replay.{Replays}
use Rattle.vc_core.specs.State.{state_of}
use Rattle.vc_core.specs.declared.event.Event.{Event}
use Rattle.vc_core.proofs.network.Network.lost.Given as goal

abbrev pub invariant-loop-actor : goal.invariant-loop-actor
invariant-loop-actor l = record {
  counts : l.all ≡ saturated (sum_by lost_of (take l.actor-index l.fn.self.actors.items));
  none : (p : Plan) (events : List Event) → Replays p events (state_of l.fn.self) → l.all ≡ 0;
}
