use Rattle.vc_stats.specs.Private.Peaks.{AreZero}
use Rattle.vc_stats.proofs.peaks.zeros.Given as goal

abbrev pub invariant-loop : goal.invariant-loop
invariant-loop l = AreZero l.counter l.most.items
