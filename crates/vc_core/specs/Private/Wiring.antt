-- By which links ways go out, and where they lead, as the code keeps it: 32 places an actor.
use Rattle.std.specs.Prelude.{◌≡◌, ◌↔◌, ℕ, ◌+◌, ◌*◌, ◌<◌, List, [], ◌∷◌, get_or, slice_get, Option, Some, None}
use Rattle.std.specs.Int.{bit_at}
use Rattle.vc_plan.specs.declared.port.Port.{Port}
use Rattle.vc_plan.specs.declared.port.Wire.{Wire}
use Rattle.vc_accepted.specs.ActorWays.{actor_of}
use Rattle.vc_core.specs.Wiring.{IsWired, in_at, out_at}
use Rattle.vc_core.specs.declared.ends.End.{End}

-- the port as an actor's link
abbrev pub end_at : ℕ → Port → End
end_at nodes port = record { actor = actor_of nodes port.spot; link = port.link }

-- where the ways of these wires lead, one after another
abbrev pub ends_of : ℕ → List Wire → List End
ends_of nodes [] = []
ends_of nodes (w ∷ ws) = end_at nodes w.two ∷ end_at nodes w.one ∷ ends_of nodes ws

-- where way leads, if it is one of these that have such ends; else any port
abbrev pub far_end_of : List End → Option ℕ → End
far_end_of ends None = record { actor = 0; link = 0 }
far_end_of ends (Some way) = get_or ends way (record { actor = 0; link = 0 })

-- an actor's room has a bit for each of its links by which a way goes out
abbrev pub AreRooms : List (Option ℕ) → List ℕ → Type 0
AreRooms out rooms = (actor link : ℕ) → link < 32 → (bit_at (get_or rooms actor 0) link ≡ 1) ↔ IsWired out actor link

-- a way comes in by the link to which it leads, and by no other
abbrev pub AreEnds : List (Option ℕ) → List End → Type 0
AreEnds out ends = (actor link way : ℕ) → (in_at out actor link ≡ Some way) ↔ (slice_get ends way ≡ Some (record { actor = actor; link = link }))

-- the ports to which ways lead stand at the places of the links by which they go out
abbrev pub AreFar : List (Option ℕ) → List End → Type 0
AreFar out far =
    (actor link way : ℕ) → out_at out actor link ≡ Some way → (e : End) × (slice_get far (actor * 32 + link) ≡ Some e) × (in_at out e.actor e.link ≡ Some way)
