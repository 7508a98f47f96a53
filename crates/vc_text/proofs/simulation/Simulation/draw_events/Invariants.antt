use Rattle.std.proofs.Common.{◌≤◌, ◌-◌, [], List}
use Rattle.vc_plan.specs.declared.plan.Plan.{Plan}
use Rattle.vc_core.specs.State.{state_of, IsNetworkOf}
use Rattle.vc_core.specs.declared.event.Event.{Event}
use Rattle.vc_text.specs.Private.Draws.{HasDrawn}
use Rattle.vc_text.specs.Private.Simulation.{HasRun, HasTaken}
use Rattle.vc_text.proofs.simulation.Simulation.draw_events.Given as goal

abbrev pub invariant-loop-self : goal.invariant-loop-self
invariant-loop-self g l = record {
  few : l.self.made ≤ l.limit;
  kept : (p : Plan) → IsNetworkOf p (state_of l.fn.self.network) → IsNetworkOf p (state_of l.self.network);
  runs : (from : g.row.K.Denot) (p : Plan) → HasTaken (g.K.EventSink.holds from) l.fn.events p [] l.fn.self → HasRun p [] l.fn.self →
      (es : List Event) × HasTaken (g.K.EventSink.holds from) l.events p es l.self × HasDrawn p l.fn.seed es l.self l.draws.words;
}

abbrev pub decreases-loop-self : goal.decreases-loop-self
decreases-loop-self g l = l.limit - l.self.made
