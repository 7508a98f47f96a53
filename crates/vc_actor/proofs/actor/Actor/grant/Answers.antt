use Rattle.std.proofs.Common.{sym, ap, ◌∙◌}
use Rattle.vc_actor.specs.Acts.{MakesGrant}
use Rattle.vc_actor.specs.OfPlan.{IsActorOf}
use Rattle.vc_actor.specs.Parts.{acting}
use Rattle.vc_actor.proofs.Parts.{alike}
use Rattle.vc_actor.proofs.actor.Actor.grant.Goals.{in-Node, in-Switch}
use Rattle.vc_actor.proofs.actor.Actor.grant.Goals as goal

pub returns : goal.returns
returns c = elim c.match-self.branch [
  | in-Node w ↦ alike (λ x y. (plan : _) (k : _) → IsActorOf plan k x → MakesGrant plan k x c.args.link y) _ c.args.self.now _ _ (sym (ap acting w.in-Node.is) ∙ c.self.view_is) (sym (ap (λ z. acting z.part) w.self-inside-is)) w.grant.ensures
  | in-Switch w ↦ alike (λ x y. (plan : _) (k : _) → IsActorOf plan k x → MakesGrant plan k x c.args.link y) _ c.args.self.now _ _ (sym (ap acting w.in-Switch.is) ∙ c.self.view_is) (sym (ap (λ z. acting z.part) w.self-inside-is)) w.grant-in-Switch.ensures
]
