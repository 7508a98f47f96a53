use Rattle.std.proofs.Common.{ℕ, ◌<◌, IfNone, IfSome}
use Rattle.vc_cycles.specs.Private.Graph.{AreDependencies}
use Rattle.vc_cycles.specs.Private.Round.{IsAway, IsLeastBelow}
use Rattle.vc_cycles.proofs.cycle.find_cycle.Given as goal

abbrev pub invariant-loop-start : goal.invariant-loop-start
invariant-loop-start l = record {
  rows : AreDependencies l.accepted l.rows.items;
  none : IfNone l.least ((k : ℕ) → k < l.start → IsAway l.rows.items k);
  some : IfSome l.least (λ ports. IsLeastBelow l.accepted l.start ports.items);
}
