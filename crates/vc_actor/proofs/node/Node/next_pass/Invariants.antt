use Rattle.std.specs.Prelude.{ℕ, ◌<◌}
use Rattle.vc_network.specs.Plan.{Plan}
use Rattle.vc_actor.specs.Able.{NodeCan}
use Rattle.vc_actor.specs.OfPlan.{IsNodeOf}
use Rattle.vc_actor.specs.declared.act.Act.TheVariants.{Pass}
use Rattle.vc_actor.proofs.node.Node.next_pass.Given as goal

abbrev pub invariant-loop-link : goal.invariant-loop-link
invariant-loop-link l = (plan : Plan) (k : ℕ) → IsNodeOf plan k l.fn.self → (j : ℕ) → j < l.link → NodeCan plan k l.fn.self (Pass j) → ⊥
