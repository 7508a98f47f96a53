use Rattle.std.proofs.Common.{take}
use Rattle.vc_core.specs.State.{shown, state_of}
use Rattle.vc_stats.specs.Private.Peaks.{AreRaised}
use Rattle.vc_stats.proofs.peaks.raise_all.Given as goal

abbrev pub invariant-loop-way : goal.invariant-loop-way
invariant-loop-way l = AreRaised (shown (state_of l.network)) (take l.way-index l.ways) l.fn.most.items l.most.items
