use Rattle.std.proofs.Common.{◌≤◌, ◌-◌}
use Rattle.vc_text.specs.Private.Simulation.{LeadsOnSoFar, all_awake}
use Rattle.vc_text.proofs.simulation.Simulation.rounds.Given as goal

abbrev pub invariant-loop-self : goal.invariant-loop-self
invariant-loop-self g l = record {
  few : l.progress.made ≤ l.limit;
  runs : LeadsOnSoFar g.K.EventSink.holds l.fn.self l.fn.events (all_awake l.fn.self.made) l.self l.events l.progress;
}

abbrev pub decreases-loop-self : goal.decreases-loop-self
decreases-loop-self g l = l.limit - l.progress.made
