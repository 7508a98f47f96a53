use Rattle.std.proofs.Common.{ℕ}
use Rattle.vc_actor.specs.OfPlan.{IsActorOf}
use Rattle.vc_network.specs.Plan.{Plan}
use Rattle.vc_threads.specs.Private.Works.{IsRested, SameLinks, Uses, worker_state}
use Rattle.vc_threads.proofs.work.make_turns.Given as goal

-- so far each turn was used, and the ends are of the same links; and where the actor is known to have no step of its own, it has none
abbrev pub invariant-loop-turn : goal.invariant-loop-turn
invariant-loop-turn g l = record {
  run : (plan : Plan) (n : ℕ) → IsActorOf plan n l.fn.worker.actor → Uses g.L.ActLog.holds plan n l.turn (worker_state l.fn.worker) (worker_state l.worker);
  ends : SameLinks (worker_state l.fn.worker) (worker_state l.worker);
  rests : IsRested l.worker.actor l.rested;
}
