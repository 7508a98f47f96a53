-- The ways that join the actors of an accepted plan: which goes out by each link, and which comes in.
use Rattle.std.specs.Prelude.{ℕ, suc, ◌+◌, ◌-◌, ◌*◌, Bool, ◌&&◌, ◌==◌, nat_lt, List, [], ◌∷◌, length, Option, Some, None, if◌then◌else◌}
use Rattle.std.specs.Option.{option_map}
use Rattle.vc_plan.specs.declared.plan.Plan.{Plan}
use Rattle.vc_plan.specs.declared.port.Port.{Port}
use Rattle.vc_plan.specs.declared.port.Spot.{Spot}
use Rattle.vc_plan.specs.declared.port.Spot.TheVariants.{Node, Switch}
use Rattle.vc_plan.specs.declared.port.Wire.{Wire}
use Rattle.vc_machine.specs.Paths.{AtNode, AtSwitch}
use Rattle.vc_machine.specs.Paths as paths
use Rattle.vc_network.specs.Plan.{back}

-- actors are numbered so: the nodes, then the switches
abbrev pub actor_of : ℕ → Spot → ℕ
actor_of nodes (Node n) = n
actor_of nodes (Switch k) = nodes + k

-- the port at an actor's link
abbrev pub link_port : Plan → ℕ → ℕ → paths.Port
link_port p actor link = if nat_lt actor (length p.nodes) then AtNode actor link else AtSwitch (actor - length p.nodes) link

-- the port is the actor's link
abbrev pub is_link : ℕ → ℕ → ℕ → Port → Bool
is_link nodes actor link port = actor_of nodes port.spot == actor && port.link == link

-- the way that goes out by the link, where the wires are numbered from i on: wire i has the way 2 i from its port one to its port two, and 2 i + 1 back
abbrev pub way_out : ℕ → ℕ → ℕ → ℕ → List Wire → Option ℕ
way_out nodes actor link i [] = None
way_out nodes actor link i (w ∷ ws) =
    if is_link nodes actor link w.one then Some (2 * i) else if is_link nodes actor link w.two then Some (2 * i + 1) else way_out nodes actor link (suc i) ws

abbrev pub outgoing : Plan → ℕ → ℕ → Option ℕ
outgoing p actor link = way_out (length p.nodes) actor link 0 p.wires

-- the way that comes in by a link is the other one of its wire
abbrev pub incoming : Plan → ℕ → ℕ → Option ℕ
incoming p actor link = option_map back (outgoing p actor link)
