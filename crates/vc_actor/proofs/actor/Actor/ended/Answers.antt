use Rattle.std.proofs.Common.{◌↔◌, IsTrue, false, sym, ap, ◌∙◌, subst}
use Rattle.std.proofs.lemmas.Bool.{false≢true}
use Rattle.vc_actor.specs.Parts.{acting, HasEnded}
use Rattle.vc_actor.proofs.actor.Actor.ended.Goals as goal

pub returns-in-Switch : goal.returns-in-Switch
returns-in-Switch c =
    subst (λ x. IsTrue false ↔ HasEnded x) (sym (ap acting c.in-Switch.is) ∙ c.self.view_is) (λ t. false≢true t, λ h. absurd h)
