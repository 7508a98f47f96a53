use Rattle.std.proofs.Common.{List}
use Rattle.vc_core.specs.Replay.{Reached}
use Rattle.vc_core.specs.State.{shown, state_of}
use Rattle.vc_core.specs.declared.event.Event.{Event}
use Rattle.vc_plan.specs.declared.plan.Plan.{Plan}
use Rattle.vc_waits.proofs.PacketPlaces.{ArePlacesTo}
use Rattle.vc_waits.proofs.packets.places.Given as goal

abbrev pub invariant-loop-chan : goal.invariant-loop-chan
invariant-loop-chan l = (p : Plan) (events : List Event) → Reached p events (state_of l.network) → ArePlacesTo p (shown (state_of l.network)) l.chan l.places.items
