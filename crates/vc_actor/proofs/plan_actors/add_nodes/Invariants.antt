use Rattle.vc_actor.specs.Begin.{AreFirst}
use Rattle.vc_actor.proofs.plan_actors.add_nodes.Given as goal

abbrev pub invariant-loop-i : goal.invariant-loop-i
invariant-loop-i l = AreFirst l.plan l.i l.actors.items
