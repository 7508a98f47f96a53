use Rattle.std.proofs.Common.{sym, ap, ◌∙◌, subst}
use Rattle.vc_actor.specs.Acts.{MakesPut}
use Rattle.vc_actor.specs.OfPlan.{IsActorOf}
use Rattle.vc_actor.specs.Parts.{acting}
use Rattle.vc_actor.specs.ActorView.{OfNode, OfSwitch}
use Rattle.vc_tokens.specs.CodeTokens.{token}
use Rattle.vc_actor.proofs.Parts.{alike}
use Rattle.vc_actor.proofs.actor.Actor.put.Goals.{in-Node, in-Switch}
use Rattle.vc_actor.proofs.actor.Actor.put.Goals as goal

pub returns : goal.returns
returns c = elim c.match-self.branch [
  | in-Node w ↦ alike (λ x y. (plan : _) (k : _) → IsActorOf plan k x → MakesPut plan k x c.args.link (token c.match-self.result) y) _ c.args.self.now _ _ (sym (ap acting w.in-Node.is) ∙ c.self.view_is) (sym (ap (λ z. acting z.part) w.self-inside-is))
      (λ plan k is. subst (λ t. MakesPut plan k (OfNode w.in-Node.node) c.args.link (token t) (OfNode w.put.new.self)) (sym w.result-is) (w.put.ensures plan k is))
  | in-Switch w ↦ alike (λ x y. (plan : _) (k : _) → IsActorOf plan k x → MakesPut plan k x c.args.link (token c.match-self.result) y) _ c.args.self.now _ _ (sym (ap acting w.in-Switch.is) ∙ c.self.view_is) (sym (ap (λ z. acting z.part) w.self-inside-is))
      (λ plan k is. subst (λ t. MakesPut plan k (OfSwitch w.in-Switch.switch.switch) c.args.link (token t) (OfSwitch w.put-in-Switch.new.self.switch)) (sym w.result-is) (w.put-in-Switch.ensures plan k is))
]
