use Rattle.std.proofs.Common.{sym, ap, ◌∙◌, subst}
use Rattle.vc_actor.specs.Acts.{MakesOwn}
use Rattle.vc_actor.specs.OfPlan.{IsActorOf}
use Rattle.vc_actor.specs.Parts.{acting}
use Rattle.vc_actor.specs.ActorView.{OfSwitch}
use Rattle.vc_actor.specs.declared.act.Act.TheVariants.{Route}
use Rattle.vc_actor.proofs.actor.Actor.route.Goals as goal

pub returns : goal.returns
returns c =
    let act = Route c.args.input c.args.output in
    subst (λ x. (plan : _) (k : _) → IsActorOf plan k x → MakesOwn plan k x act (OfSwitch c.route.new.self.switch)) (sym (ap acting c.in-Switch.is) ∙ c.self.view_is) c.route.ensures
