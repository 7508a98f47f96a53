use Rattle.std.proofs.Common.{◌∙◌, ℕ, ap, subst, sym}
use Rattle.vc_network.specs.Plan.{Plan}
use Rattle.vc_actor.specs.ActorView.{Acting}
use Rattle.vc_actor.specs.OfPlan.{IsActorOf}
use Rattle.vc_actor.specs.Parts.{acting}
use Rattle.vc_actor.specs.StepsInARow.{MakesSteps}
use Rattle.vc_actor.proofs.Parts.{alike}
use Rattle.vc_actor.proofs.StepsInARow.{no_steps}
use Rattle.vc_actor.proofs.actor.Actor.make_steps.Goals.{in-Node, in-Switch}
use Rattle.vc_actor.proofs.actor.Actor.make_steps.Goals as goal

pub returns-clause-made : goal.returns-clause-made
returns-clause-made c =
    let old = c.args.self.now in
    elim c.match-self.branch [
      | in-Node w ↦ subst (λ m. (plan : Plan) (k : ℕ) → IsActorOf plan k old → MakesSteps plan k m old (acting c.match-self.self-inside.part)) (sym w.result-is)
          (alike (λ x y. (plan : Plan) (k : ℕ) → IsActorOf plan k x → MakesSteps plan k w.make_steps.result x y) _ old _ _
          (sym (ap acting w.in-Node.is) ∙ c.self.view_is) (sym (ap (λ z. acting z.part) w.self-inside-is)) w.make_steps.ensures.made)
      | in-Switch w ↦ λ plan k is.
          subst (λ m. MakesSteps plan k m old (acting c.match-self.self-inside.part)) (sym w.result-is)
          (subst (λ (a : Acting). MakesSteps plan k 0 old a) (sym c.self.view_is ∙ sym (ap (λ z. acting z.part) w.self-inside-is)) (no_steps plan k old is))
    ]
