use Rattle.std.specs.Prelude.{◌≡◌, ◌<◌, ℕ, get_or}
use Rattle.vc_network.specs.Plan.{Plan}
use Rattle.vc_occam.specs.declared.moves.Move.{Move}
use Rattle.vc_actor.specs.Able.{CanMove}
use Rattle.vc_actor.specs.OfPlan.{IsNodeOf}
use Rattle.vc_actor.proofs.node.Node.first_let.Given as goal

abbrev pub invariant-loop-made : goal.invariant-loop-made
invariant-loop-made l = (plan : Plan) (k : ℕ) → IsNodeOf plan k l.fn.self → (j : ℕ) (m : Move) → j < l.made-index → get_or l.moves j m ≡ m → CanMove plan k l.fn.self m → ⊥
