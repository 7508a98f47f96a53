use Rattle.std.proofs.Common.{◌≡◌, ◌↔◌, Bool, IsTrue, Some, subst}
use Rattle.vc_actor.specs.Private.Parts.{IsDone}
use Rattle.vc_actor.specs.Parts.{node_in}
use Rattle.vc_actor.specs.ActorView.{Acting, OfNode, OfSwitch}
use Rattle.vc_actor.specs.declared.node.Node.{Node}
use Rattle.vc_core.proofs.network.is_done.Goals as goal

-- what is told of the node is told of the actor
done_by : (a : Acting) (n : Node) (t : Bool) → Some n ≡ node_in a → IsTrue t ↔ IsDone (OfNode n) → IsTrue t ↔ IsDone a
done_by (OfNode m) n t here told = let same : n ≡ m = cc in subst (λ z. IsTrue t ↔ IsDone (OfNode z)) same told
done_by (OfSwitch s) n t here told = absurd (cc)

pub returns-in-Some : goal.returns-in-Some
returns-in-Some c = done_by c.args.actor.now c.in-Some.node.now c.ended.result c.in-Some.ensures c.ended.ensures
