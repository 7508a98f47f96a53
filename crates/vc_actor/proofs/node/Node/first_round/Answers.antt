use Rattle.vc_actor.proofs.MoveLists.{none_from}
use Rattle.vc_actor.proofs.node.Node.first_round.Goals as goal

pub returns-in-None-clause-none : goal.returns-in-None-clause-none
returns-in-None-clause-none c = λ apart h. none_from _ c.first_from-in-None.result (c.first_from-in-None.ensures.first apart) h
