use Rattle.vc_plan.specs.Names.{actor_name}
use Rattle.vc_trace.specs.Private.EventOf.{IsNamed}
use Rattle.vc_trace.specs.Private.Names.{AreNumbered}
use Rattle.vc_trace.proofs.names.actors_of.Given as goal

abbrev pub invariant-loop-actor : goal.invariant-loop-actor
invariant-loop-actor l = IsNamed l.plan → AreNumbered (actor_name l.plan) l.actor l.actors
