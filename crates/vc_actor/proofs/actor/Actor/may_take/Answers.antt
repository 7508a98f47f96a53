use Rattle.std.proofs.Common.{◌↔◌, ltb, IsTrue, sym, ap, ◌∙◌, subst}
use Rattle.std.proofs.lemmas.Bool.Decides.{Decides-ltb}
use Rattle.vc_actor.specs.Acts.{HasLink}
use Rattle.vc_actor.specs.Parts.{acting}
use Rattle.vc_actor.proofs.actor.Actor.may_take.Goals as goal

pub returns-in-Switch : goal.returns-in-Switch
returns-in-Switch c =
    subst (λ x. IsTrue (ltb c.args.link 32) ↔ HasLink x c.args.link) (sym (ap acting c.in-Switch.is) ∙ c.self.view_is) (Decides-ltb c.args.link 32)
