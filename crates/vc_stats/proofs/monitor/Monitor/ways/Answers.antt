use Rattle.vc_stats.proofs.Figures.{ways_are}
use Rattle.vc_stats.proofs.monitor.Monitor.ways.Goals as goal

pub loop-way-preserved : goal.loop-way-preserved
loop-way-preserved c = λ es xs x is. ways_are c.args.plan.now es xs _ _ c.way.result c.loop-way.way (c.loop-way.invariant es xs x is) c.in_ok-push.ensures.items (c.way.ensures es xs x is)
