use Rattle.std.proofs.Common.{◌*◌}
use Rattle.vc_stats.specs.Peaks.{AreWaysTo}
use Rattle.vc_stats.proofs.peaks.ways_of.Given as goal

abbrev pub invariant-loop-n : goal.invariant-loop-n
invariant-loop-n l = AreWaysTo (2 * l.n) l.plan l.ways
