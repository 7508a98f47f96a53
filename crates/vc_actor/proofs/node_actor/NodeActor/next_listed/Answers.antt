use Rattle.std.proofs.Common.{◌≡◌, ap, ◌∙◌, subst}
use Rattle.vc_actor.specs.OfPlan.{IsNodeOf}
use Rattle.vc_actor.specs.Private.Turns.{FindsMove}
use Rattle.vc_actor.proofs.node_actor.NodeActor.next_listed.Goals.{then-not-self+in_ok-list_actions, else-not-self}
use Rattle.vc_actor.proofs.node_actor.NodeActor.next_listed.Goals as goal

pub returns-clause-finds : goal.returns-clause-finds
returns-clause-finds c =
    let same : c.if-not-self.self-inside.node ≡ c.args.self.now = elim c.if-not-self.branch [
      | then-not-self+in_ok-list_actions w ↦ ap (λ z. z.node) w.self-inside-is ∙ c.self.view_is
      | else-not-self w ↦ ap (λ z. z.node) w.self-inside-is ∙ c.self.view_is
    ] in
    subst (λ n. (plan : _) (k : _) → IsNodeOf plan k n → FindsMove plan k n c.next_move.result) same c.next_move.ensures.finds
