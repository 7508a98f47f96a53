use Rattle.std.proofs.Common.{◌≡◌, map, take}
use Rattle.vc_stats.specs.Times.{busy_of}
use Rattle.vc_stats.proofs.unfinished.Unfinished.counts.Given as goal

abbrev pub invariant-loop-time : goal.invariant-loop-time
invariant-loop-time l = l.counts.items ≡ map (λ time. busy_of time l.events) (take l.time-index l.self.times.items)
