use Rattle.std.proofs.Common.{◌<◌, refl, ap}
use Rattle.vc_actor.specs.Acts.{MakesTake}
use Rattle.vc_actor.specs.OfPlan.{IsActorOf}
use Rattle.vc_actor.specs.ActorView.{OfNode}
use Rattle.vc_tokens.specs.CodeTokens.{token}
use Rattle.vc_actor.proofs.LinkTokens.{takes}
use Rattle.vc_actor.proofs.Parts.{alike}
use Rattle.vc_actor.proofs.node_actor.NodeActor.accept.Goals as goal

pub returns : goal.returns
returns c =
    alike (λ x y. (plan : _) (k word : _) → IsActorOf plan k x → c.args.link < 4 → MakesTake plan k x c.args.link word (token c.args.came) y) (OfNode c.self.inside.node) (OfNode c.args.self.now) _ _ (ap OfNode c.self.view_is) refl
    (λ plan k word is few. takes plan k c.self.inside.node _ c.args.link word _ is (c.accept.ensures.comes few) c.accept.ensures.kept refl refl)
