use Rattle.std.proofs.Common.{sym, subst}
use Rattle.vc_actor.specs.Acts.{MakesOwn}
use Rattle.vc_actor.proofs.actor.Actor.make.Goals as goal

pub returns-in-Route-clause-ok : goal.returns-in-Route-clause-ok
returns-in-Route-clause-ok c = λ plan k is. subst (λ a. MakesOwn plan k c.args.self.now a c.route.new.self) (sym c.in-Route.is) (c.route.ensures plan k is)
