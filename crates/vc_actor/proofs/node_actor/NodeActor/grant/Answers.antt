use Rattle.std.proofs.Common.{refl, ap}
use Rattle.vc_actor.specs.Acts.{MakesGrant}
use Rattle.vc_actor.specs.OfPlan.{IsActorOf}
use Rattle.vc_actor.specs.ActorView.{OfNode}
use Rattle.vc_actor.proofs.LinkTokens.{grants}
use Rattle.vc_actor.proofs.Parts.{alike}
use Rattle.vc_actor.proofs.node_actor.NodeActor.grant.Goals as goal

pub returns : goal.returns
returns c =
    alike (λ x y. (plan : _) (k : _) → IsActorOf plan k x → MakesGrant plan k x c.args.link y) (OfNode c.self.inside.node) (OfNode c.args.self.now) _ _ (ap OfNode c.self.view_is) refl
    (λ plan k is. grants plan k c.self.inside.node _ c.args.link is c.grant.ensures.grants c.grant.ensures.kept refl refl)
