-- What a scheduler rests on: a list of events grows by one that was made, and the headline holds wherever it leads.
use Rattle.std.specs.Prelude.{List, [], ◌∷◌, ◌++◌}
use Rattle.vc_accepted.specs.NetworkOf.{network_of}
use Rattle.vc_network.specs.Headline.{AreTold}
use Rattle.vc_network.specs.Network.{begins}
use Rattle.vc_network.specs.Views.{Said}
use Rattle.vc_plan.specs.declared.plan.Plan.{Plan}
use Rattle.vc_accepted.specs.Begin.{begin_of}
use Rattle.vc_accepted.specs.Process.{does}
use Rattle.vc_core.specs.Replay.{IsOpening, Reached, Replays}
use Rattle.vc_core.specs.State.{State, MakesEvent, shown}
use Rattle.vc_core.specs.declared.event.Event.{Event}

pub record EventsLeadOn : Type 0 where
  -- no event leads to the opening state
  pub first : (p : Plan) (s : State) → IsOpening p s → Reached p [] s
  -- an event that is made joins those made before it
  pub next : (p : Plan) (made : List Event) (e : Event) (s t : State) → Reached p made s → MakesEvent p s e t → Reached p (made ++ e ∷ []) t
  -- the headline holds there, and what the nodes communicated has a linearization
  pub headline : (p : Plan) (made : List Event) (s : State) → Reached p made s → Replays p made s
  -- the steps of the processes make such a list too, which leads each process to what remains of it
  pub by_steps : (p : Plan) (made : List Event) (s : State) → Reached p made s → (ks : List Said) × AreTold (network_of p) does (begins (network_of p) (begin_of p)) (shown s) ks
