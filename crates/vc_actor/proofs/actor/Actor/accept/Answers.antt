use Rattle.std.proofs.Common.{sym, ap, ◌∙◌}
use Rattle.vc_actor.specs.Acts.{HasLink, MakesTake}
use Rattle.vc_actor.specs.OfPlan.{IsActorOf}
use Rattle.vc_actor.specs.Parts.{acting}
use Rattle.vc_tokens.specs.CodeTokens.{token}
use Rattle.vc_actor.proofs.Parts.{alike}
use Rattle.vc_actor.proofs.actor.Actor.accept.Goals.{in-Node, in-Switch}
use Rattle.vc_actor.proofs.actor.Actor.accept.Goals as goal

pub returns : goal.returns
returns c = elim c.match-self.branch [
  | in-Node w ↦ alike (λ x y. (plan : _) (k : _) → IsActorOf plan k x → HasLink x c.args.link → MakesTake plan k x c.args.link c.args.word (token c.args.came) y) _ c.args.self.now _ _ (sym (ap acting w.in-Node.is) ∙ c.self.view_is) (sym (ap (λ z. acting z.part) w.self-inside-is))
      (λ plan k is few. w.accept.ensures plan k c.args.word is few)
  | in-Switch w ↦ alike (λ x y. (plan : _) (k : _) → IsActorOf plan k x → HasLink x c.args.link → MakesTake plan k x c.args.link c.args.word (token c.args.came) y) _ c.args.self.now _ _ (sym (ap acting w.in-Switch.is) ∙ c.self.view_is) (sym (ap (λ z. acting z.part) w.self-inside-is))
      (λ plan k is few. w.accept-in-Switch.ensures plan k is)
]
