use Rattle.std.proofs.Common.{refl, ap}
use Rattle.vc_actor.specs.Acts.{MakesOwn}
use Rattle.vc_actor.specs.OfPlan.{IsActorOf}
use Rattle.vc_actor.specs.ActorView.{OfNode}
use Rattle.vc_actor.specs.declared.act.Act.TheVariants.{Pass}
use Rattle.vc_actor.proofs.LinkTokens.{passed}
use Rattle.vc_actor.proofs.Parts.{alike}
use Rattle.vc_actor.proofs.node_actor.NodeActor.pass.Goals as goal

pub returns-then-branch-clause-ok : goal.returns-then-branch-clause-ok
returns-then-branch-clause-ok c =
    let act = Pass c.args.link in
    alike (λ x y. (plan : _) (k : _) → IsActorOf plan k x → MakesOwn plan k x act y) (OfNode c.self.inside.node) (OfNode c.args.self.now) _ _ (ap OfNode c.self.view_is) refl
    (λ plan k is. passed plan k c.self.inside.node _ c.args.link act is.0 refl (c.in_ok-pass.ensures.ok plan k is.1))

pub returns-else-branch-clause-ok : goal.returns-else-branch-clause-ok
returns-else-branch-clause-ok c =
    let act = Pass c.args.link in
    alike (λ x y. (plan : _) (k : _) → IsActorOf plan k x → MakesOwn plan k x act y) (OfNode c.self.inside.node) (OfNode c.args.self.now) _ _ (ap OfNode c.self.view_is) refl
    (λ plan k is. passed plan k c.self.inside.node _ c.args.link act is.0 refl (c.in_ok-pass.ensures.ok plan k is.1))
