use Rattle.std.specs.Prelude.{◌+◌, length}
use Rattle.vc_actor.specs.Begin.{AreFirst}
use Rattle.vc_actor.proofs.plan_actors.add_switches.Given as goal

abbrev pub invariant-loop-switch : goal.invariant-loop-switch
invariant-loop-switch l = AreFirst l.plan (length l.plan.nodes + l.switch-index) l.actors.items
