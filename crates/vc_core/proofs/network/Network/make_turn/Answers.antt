use Rattle.std.proofs.Common.{subst}
use Rattle.vc_core.specs.State.{state_of, WaysLet}
use Rattle.vc_core.proofs.Takes.{acts_at}
use Rattle.vc_core.proofs.network.Network.make_turn.Goals as goal

pub act-requires-clause-may : goal.act-requires-clause-may
act-requires-clause-may c = acts_at (state_of c.args.self.now) c.args.event.now c.requires.may

pub put-requires-clause-may : goal.put-requires-clause-may
put-requires-clause-may c = acts_at (state_of c.args.self.now) c.args.event.now c.requires.may

pub put-requires-clause-way : goal.put-requires-clause-way
put-requires-clause-way c = subst (WaysLet (state_of c.args.self.now) c.args.event.now.actor) c.in-Put.is c.requires.may.ways

pub grant-requires-clause-may : goal.grant-requires-clause-may
grant-requires-clause-may c = acts_at (state_of c.args.self.now) c.args.event.now c.requires.may

pub grant-requires-clause-way : goal.grant-requires-clause-way
grant-requires-clause-way c = subst (WaysLet (state_of c.args.self.now) c.args.event.now.actor) c.in-Fct.is c.requires.may.ways
