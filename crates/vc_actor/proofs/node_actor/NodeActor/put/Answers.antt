use Rattle.std.proofs.Common.{refl, ap}
use Rattle.vc_actor.specs.Acts.{MakesPut}
use Rattle.vc_actor.specs.OfPlan.{IsActorOf}
use Rattle.vc_actor.specs.ActorView.{OfNode}
use Rattle.vc_tokens.specs.CodeTokens.{token}
use Rattle.vc_actor.proofs.LinkTokens.{puts}
use Rattle.vc_actor.proofs.Parts.{alike}
use Rattle.vc_actor.proofs.node_actor.NodeActor.put.Goals as goal

pub returns : goal.returns
returns c =
    alike (λ x y. (plan : _) (k : _) → IsActorOf plan k x → MakesPut plan k x c.args.link (token c.put.result) y) (OfNode c.self.inside.node) (OfNode c.args.self.now) _ _ (ap OfNode c.self.view_is) refl
    (λ plan k is. puts plan k c.self.inside.node _ c.args.link _ is c.put.ensures.sends c.put.ensures.kept refl refl)
