use Rattle.std.proofs.Common.{IfSome, Some, subst}
use Rattle.vc_actor.specs.OfPlan.{IsNodeOf}
use Rattle.vc_actor.specs.Private.Turns.{FindsMove}
use Rattle.vc_actor.proofs.node_actor.NodeActor.only_step.Goals as goal

pub returns-clause-finds : goal.returns-clause-finds
returns-clause-finds c =
    subst (λ n. (plan : _) (k : _) → IsNodeOf plan k n → IfSome c.only_step.result (λ a. FindsMove plan k n (Some a))) c.self.view_is c.only_step.ensures.finds
