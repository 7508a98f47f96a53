use Rattle.std.proofs.Common.{IfOk, subst}
use Rattle.vc_actor.specs.OfPlan.{IsNodeOf}
use Rattle.vc_actor.specs.Private.Turns.{FindsMove}
use Rattle.vc_actor.proofs.node_actor.NodeActor.next_move.Goals as goal

pub returns-clause-finds : goal.returns-clause-finds
returns-clause-finds c =
    subst (λ n. (plan : _) (k : _) → IsNodeOf plan k n → IfOk c.next_listed.result (FindsMove plan k n)) c.found_move.ensures.same c.next_listed.ensures.finds

pub returns-then-self-clause-finds : goal.returns-then-self-clause-finds
returns-then-self-clause-finds c =
    subst (λ n. (plan : _) (k : _) → IsNodeOf plan k n → FindsMove plan k n c.next_move.result) c.self.view_is c.next_move.ensures.finds
