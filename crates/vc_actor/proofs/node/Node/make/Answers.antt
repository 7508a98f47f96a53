use Rattle.std.proofs.Common.{sym, subst}
use Rattle.vc_actor.specs.MayMove.{MakesMove}
use Rattle.vc_actor.proofs.node.Node.make.Goals as goal

pub returns-in_ok-rest-in-Quiet-clause-ok : goal.returns-in_ok-rest-in-Quiet-clause-ok
returns-in_ok-rest-in-Quiet-clause-ok c = λ plan k is.
    subst (λ made. MakesMove plan k c.args.self.now made c.rest.new.self) (sym c.in-Quiet.is) (c.in_ok-rest-in-Quiet.ensures.ok plan k is)
