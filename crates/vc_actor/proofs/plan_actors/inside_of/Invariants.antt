use Rattle.std.proofs.Common.{◌≡◌, ◌++◌, drop}
use Rattle.vc_accepted.specs.Begin.{numbers_inside}
use Rattle.vc_actor.proofs.plan_actors.inside_of.Given as goal

abbrev pub invariant-loop-chan : goal.invariant-loop-chan
invariant-loop-chan l = l.inside.items ++ numbers_inside l.number l.chan (drop l.chan l.channels) ≡ numbers_inside l.number 0 l.channels
