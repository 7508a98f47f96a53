use Rattle.std.proofs.Common.{refl}
use Rattle.vc_actor.proofs.LinkTokens.{few_links}
use Rattle.vc_actor.proofs.actor.Actor.take.Goals as goal

pub accept-requires : goal.accept-requires
accept-requires c = few_links c.args.self.now c.args.link c.requires

pub returns-clause-taken : goal.returns-clause-taken
returns-clause-taken c = refl

pub returns-clause-ok : goal.returns-clause-ok
returns-clause-ok c = λ plan k is. c.accept.ensures plan k is c.requires
