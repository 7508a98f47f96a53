use Rattle.std.proofs.Common.{OnOk, sym, ap, ◌∙◌, subst}
use Rattle.vc_actor.specs.Acts.{MakesOwn}
use Rattle.vc_actor.specs.OfPlan.{IsActorOf}
use Rattle.vc_actor.specs.Parts.{acting}
use Rattle.vc_actor.specs.ActorView.{OfNode}
use Rattle.vc_actor.specs.declared.act.Act.TheVariants.{Pass}
use Rattle.vc_actor.proofs.Parts.{alike, on_ok_of}
use Rattle.vc_actor.proofs.actor.Actor.pass.Goals.{in-Node, in-Switch}
use Rattle.vc_actor.proofs.actor.Actor.pass.Goals as goal

pub returns-clause-ok : goal.returns-clause-ok
returns-clause-ok c =
    let act = Pass c.args.link in
    elim c.match-self.branch [
      | in-Node w ↦ alike (λ x y. (plan : _) (k : _) → IsActorOf plan k x → OnOk c.match-self.result (MakesOwn plan k x act y)) _ c.args.self.now _ _ (sym (ap acting w.in-Node.is) ∙ c.self.view_is) (sym (ap (λ z. acting z.part) w.self-inside-is))
          (λ plan k is. subst (λ r. OnOk r (MakesOwn plan k (OfNode w.in-Node.node) act (OfNode w.pass.new.self))) (sym w.result-is) (w.pass.ensures.ok plan k is))
      | in-Switch w ↦ alike (λ x y. (plan : _) (k : _) → IsActorOf plan k x → OnOk c.match-self.result (MakesOwn plan k x act y)) _ c.args.self.now _ _ (sym (ap acting w.in-Switch.is) ∙ c.self.view_is) (sym (ap (λ z. acting z.part) w.self-inside-is))
          (λ plan k is. on_ok_of c.match-self.result (w.pass-in-Switch.ensures plan k is))
    ]
