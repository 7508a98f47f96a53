use Rattle.std.proofs.Common.{◌↔◌, IsTrue, sym, ap, ◌∙◌, subst}
use Rattle.vc_actor.specs.Able.{CanAct}
use Rattle.vc_actor.specs.OfPlan.{IsActorOf}
use Rattle.vc_actor.specs.Parts.{acting}
use Rattle.vc_actor.proofs.actor.Actor.can.Goals as goal

pub returns-in-Node-clause-can : goal.returns-in-Node-clause-can
returns-in-Node-clause-can c =
    subst (λ x. (plan : _) (k : _) → IsActorOf plan k x → IsTrue c.can.result ↔ CanAct plan k x c.args.act.now) (sym (ap acting c.in-Node.is) ∙ c.self.view_is) (λ plan k is. c.can.ensures.can plan k is.1)
