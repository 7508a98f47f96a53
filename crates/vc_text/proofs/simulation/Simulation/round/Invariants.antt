use Rattle.std.proofs.Common.{◌≡◌, ◌<◌, ◌≤◌, ◌-◌, ◌^◌, ℕ, List}
use Rattle.std.specs.Int.{bit_at}
use Rattle.vc_plan.specs.declared.plan.Plan.{Plan}
use Rattle.vc_core.specs.State.{state_of}
use Rattle.vc_core.specs.Private.Turns.{Rests}
use Rattle.vc_actor.specs.Turns.{actors}
use Rattle.vc_core.specs.declared.event.Event.{Event}
use Rattle.vc_text.specs.Private.Simulation.{HasRunSoFar, HasTaken, LeadsOnSoFar}
use Rattle.vc_text.proofs.simulation.Simulation.round.Given as goal

abbrev pub invariant-loop-actor : goal.invariant-loop-actor
invariant-loop-actor g l = record {
  few : l.progress.made ≤ l.limit;
  edge : (from : ℕ) × (from ≤ 64) × (l.left ≡ 2 ^ 64 - 2 ^ from);
  runs : LeadsOnSoFar g.K.EventSink.holds l.fn.self l.fn.events l.fn.progress l.self l.events l.progress;
  some : l.fn.progress.made ≤ l.progress.made;
  same : l.progress.made ≡ l.fn.progress.made → (from : g.row.K.Denot) (p : Plan) (es : List Event) → HasTaken (g.K.EventSink.holds from) l.fn.events p es l.fn.self → HasRunSoFar p es l.fn.self l.fn.progress →
      state_of l.self.network ≡ state_of l.fn.self.network;
  rests : l.progress.made ≡ l.fn.progress.made → (from : g.row.K.Denot) (p : Plan) (es : List Event) → HasTaken (g.K.EventSink.holds from) l.fn.events p es l.fn.self → HasRunSoFar p es l.fn.self l.fn.progress →
      (k : ℕ) → k < 64 → bit_at l.left k ≡ 0 → k < actors p → Rests p (state_of l.fn.self.network) k;
}

abbrev pub decreases-loop-actor : goal.decreases-loop-actor
decreases-loop-actor g l = l.left
