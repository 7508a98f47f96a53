use Rattle.std.specs.Prelude.{ℕ, ◌<◌}
use Rattle.vc_network.specs.Plan.{Plan}
use Rattle.vc_actor.specs.ActorView.{OfNode}
use Rattle.vc_actor.specs.Turns.{IsTurn}
use Rattle.vc_actor.specs.OfPlan.{IsNodeOf}
use Rattle.vc_actor.specs.declared.act.Act.TheVariants.{Put}
use Rattle.vc_actor.proofs.node.Node.next_put.Given as goal

abbrev pub invariant-loop-link : goal.invariant-loop-link
invariant-loop-link l = (plan : Plan) (k : ℕ) → IsNodeOf plan k l.fn.self → (j : ℕ) → j < l.link → IsTurn plan k (OfNode l.fn.self) l.fn.room (Put j) → ⊥
