use Rattle.std.proofs.Common.{◌≤◌, ◌-◌}
use Rattle.vc_text.specs.Private.Simulation.{LeadsOnSoFar}
use Rattle.vc_text.proofs.simulation.Simulation.stretch.Given as goal

abbrev pub invariant-loop : goal.invariant-loop
invariant-loop g l = record {
  few : l.progress.made ≤ l.limit;
  some : l.fn.progress.made ≤ l.progress.made;
  runs : LeadsOnSoFar g.K.EventSink.holds l.fn.self l.fn.events l.fn.progress l.self l.events l.progress;
}

abbrev pub decreases-loop : goal.decreases-loop
decreases-loop g l = l.limit - l.progress.made
