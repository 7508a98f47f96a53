use Rattle.std.proofs.Common.{refl, sym}
use Rattle.vc_actor.proofs.actor.Actor.turn_by.Goals as goal

pub returns-in-Put-clause-makes : goal.returns-in-Put-clause-makes
returns-in-Put-clause-makes c = λ plan k is. (sym c.in-Put.is, (refl, c.put-item.ensures plan k is))

pub returns-in-Fct-clause-makes : goal.returns-in-Fct-clause-makes
returns-in-Fct-clause-makes c = λ plan k is. (sym c.in-Fct.is, (refl, refl, c.grant.ensures plan k is))

pub returns-in_ok-make-in-Proc-clause-makes : goal.returns-in_ok-make-in-Proc-clause-makes
returns-in_ok-make-in-Proc-clause-makes c = λ plan k is. (refl, c.in_ok-make-in-Proc.ensures.ok plan k is)
