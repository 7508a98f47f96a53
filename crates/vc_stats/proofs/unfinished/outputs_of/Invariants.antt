use Rattle.std.proofs.Common.{◌≡◌, ◌<◌, ℕ, Some, true}
use Rattle.vc_accepted.specs.NetworkOf.{network_of}
use Rattle.vc_network.specs.Plan.{home}
use Rattle.vc_stats.specs.Rows.{has}
use Rattle.vc_stats.specs.Times.{source_on}
use Rattle.vc_stats.proofs.unfinished.outputs_of.Given as goal

abbrev pub invariant-loop-chan : goal.invariant-loop-chan
invariant-loop-chan l = (c node : ℕ) → c < l.chan → source_on (network_of l.plan) (home (network_of l.plan) c) ≡ Some node → has l.outputs node c ≡ true
