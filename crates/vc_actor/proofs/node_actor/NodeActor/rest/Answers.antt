use Rattle.std.proofs.Common.{refl, ap}
use Rattle.vc_occam.specs.declared.moves.Move.TheVariants.{Quiet}
use Rattle.vc_actor.specs.Acts.{MakesOwn}
use Rattle.vc_actor.specs.OfPlan.{IsActorOf}
use Rattle.vc_actor.specs.ActorView.{OfNode}
use Rattle.vc_actor.specs.declared.act.Act.TheVariants.{Proc}
use Rattle.vc_actor.proofs.LinkTokens.{moved}
use Rattle.vc_actor.proofs.Parts.{alike}
use Rattle.vc_actor.proofs.node_actor.NodeActor.rest.Goals as goal

pub returns-clause-ok : goal.returns-clause-ok
returns-clause-ok c =
    let made = Quiet c.args.site in
    alike (λ x y. (plan : _) (k : _) → IsActorOf plan k x → MakesOwn plan k x (Proc made) y) (OfNode c.self.inside.node) (OfNode c.args.self.now) _ _ (ap OfNode c.self.view_is) refl
    (λ plan k is. moved plan k c.self.inside.node _ made (Proc made) is.0 refl (c.in_ok-rest.ensures.ok plan k is.1))
