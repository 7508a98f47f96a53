-- The channel dependency graph (Dally and Seitz, 1987) of a plan: its ways, each named by the port by which packets leave on it. A port
-- depends on another where a packet that left by the first may have to wait for the second, by any link of a group and behind any
-- random header. Ranks that rise along dependencies, and cycles of dependencies.
use Rattle.std.specs.Prelude.{◌≡◌, ◌⊎◌, ℕ, ◌<◌, Bool, List, [], ◌∷◌, length, Some, slice_get}
use Rattle.vc_plan.specs.declared.port.Spot.{Spot}
use Rattle.vc_plan.specs.declared.port.Spot.TheVariants.{Node, Switch}
use Rattle.vc_plan.specs.declared.port.Port.{Port}
use Rattle.vc_plan.specs.declared.plan.Plan.{Plan}
use Rattle.vc_plan.specs.declared.vlink.Vlink.{Vlink}
use Rattle.vc_plan.specs.declared.path_fault.Hop.{Hop}
use Rattle.vc_plan.specs.Accepted.{end_of}
use Rattle.vc_plan.specs.Hops.{IsHop}
use Rattle.vc_plan.specs.Wires.{across, sending_port}

-- the port by which the packet left
abbrev pub port_of : Hop → Port
port_of h = record { spot = Switch h.switch; link = h.link }

-- one hop: a packet that leaves by port a with headers s leaves the switch to which it comes by port b with headers t
pub record GoesTo (net : Plan) (a : Port) (s : List ℕ) (b : Port) (t : List ℕ) : Type 0 where
  pub far : Port
  pub hop : Hop
  pub to : Port
  pub comes : across net.wires a ≡ Some far
  pub goes : IsHop net far s hop to t
  pub port : b ≡ port_of hop

-- a packet of this virtual link can leave by this port with these headers
pub data CanLeave (net : Plan) (v : Vlink) : Port → List ℕ → Type 0 where
  first : (from_a : Bool) → CanLeave net v (sending_port (end_of v from_a)) (end_of v from_a).route
  later : {a b : Port} {s t : List ℕ} → CanLeave net v a s → GoesTo net a s b t → CanLeave net v b t

-- a packet of some virtual link that left by port a can leave the switch to which it comes by port b
pub record DependsOn (net : Plan) (a b : Port) : Type 0 where
  pub index : ℕ
  pub vlink : Vlink
  pub headers : List ℕ
  pub after : List ℕ
  pub there : slice_get net.vlinks index ≡ Some vlink
  pub leaves : CanLeave net vlink a headers
  pub goes : GoesTo net a headers b after

-- each port has a rank, and it rises along each dependency
pub record HasRanks (net : Plan) : Type 0 where
  pub rank : Port → ℕ
  pub rises : (a b : Port) → DependsOn net a b → rank a < rank b

-- each of these ports depends on the next, and the last on b
abbrev pub Chain : Plan → Port → List Port → Port → Type 0
Chain net a [] b = DependsOn net a b
Chain net a (c ∷ cs) b = DependsOn net a c × Chain net c cs b

-- and the last on the first
abbrev pub IsCycle : Plan → List Port → Type 0
IsCycle net [] = ⊥
IsCycle net (a ∷ as') = Chain net a as' a

-- the order of ports: nodes before switches, then by number, then by link
abbrev pub SpotBefore : Spot → Spot → Type 0
SpotBefore (Node m) (Node n) = m < n
SpotBefore (Node m) (Switch n) = Unit {0}
SpotBefore (Switch m) (Node n) = ⊥
SpotBefore (Switch m) (Switch n) = m < n

abbrev pub PortBefore : Port → Port → Type 0
PortBefore a b = SpotBefore a.spot b.spot ⊎ ((a.spot ≡ b.spot) × (a.link < b.link))

-- of two lists of one length, the first port that differs decides
abbrev pub Before : List Port → List Port → Type 0
Before [] bs = ⊥
Before (a ∷ as') [] = ⊥
Before (a ∷ as') (b ∷ bs) = PortBefore a b ⊎ ((a ≡ b) × Before as' bs)

-- fewer ports, or as many and not after the others
abbrev pub IsNotAfter : List Port → List Port → Type 0
IsNotAfter as' bs = (length as' < length bs) ⊎ ((length as' ≡ length bs) × (Before as' bs ⊎ (as' ≡ bs)))

-- a cycle, and no cycle is before it
pub record IsLeastCycle (net : Plan) (ports : List Port) : Type 0 where
  pub cycle : IsCycle net ports
  pub least : (others : List Port) → IsCycle net others → IsNotAfter ports others

-- where the ports have ranks there is no cycle, and no two cycles are the least
pub record CyclesAreRight : Type 0 where
  pub refuted : (p : Plan) (ports : List Port) → HasRanks p → IsCycle p ports → ⊥
  pub one : (p : Plan) (ports others : List Port) → IsLeastCycle p ports → IsLeastCycle p others → ports ≡ others
