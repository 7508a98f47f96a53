use Rattle.std.proofs.Common.{◌-◌}
use Rattle.vc_cycles.specs.Private.Round.{Settled}
use Rattle.vc_cycles.proofs.round.find_round.Given as goal

abbrev pub invariant-loop-at : goal.invariant-loop-at
invariant-loop-at l = Settled l.rows l.start l.at l.round.found.items l.round.seen.items

abbrev pub decreases-loop-at : goal.decreases-loop-at
decreases-loop-at l = 1025 - l.at
