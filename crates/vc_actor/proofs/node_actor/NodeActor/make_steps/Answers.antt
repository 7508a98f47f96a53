use Rattle.std.proofs.Common.{◌-◌, ap, refl}
use Rattle.vc_actor.specs.ActorView.{OfNode}
use Rattle.vc_actor.specs.OfPlan.{IsActorOf}
use Rattle.vc_actor.specs.StepsInARow.{MakesSteps}
use Rattle.vc_actor.proofs.Parts.{alike}
use Rattle.vc_actor.proofs.StepsInARow.{no_steps}
use Rattle.vc_actor.proofs.node_actor.NodeActor.make_steps.Goals as goal

pub returns-then-most-eq0-clause-made : goal.returns-then-most-eq0-clause-made
returns-then-most-eq0-clause-made c = λ plan k is. no_steps plan k (OfNode c.args.self.now) is

pub returns-clause-made : goal.returns-clause-made
returns-clause-made c =
    let n = c.args.most - c.make_steps.new.steps.left in
    alike (λ x y. (plan : _) (k : _) → IsActorOf plan k x → MakesSteps plan k n x y) (OfNode c.self.inside.node) (OfNode c.args.self.now) _ _ (ap OfNode c.self.view_is) refl c.make_steps.ensures.made
