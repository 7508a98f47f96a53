use Rattle.vc_stats.specs.Private.Times.{AreIdle}
use Rattle.vc_stats.proofs.unfinished.idle_times.Given as goal

abbrev pub invariant-loop : goal.invariant-loop
invariant-loop l = AreIdle l.counter l.times.items
