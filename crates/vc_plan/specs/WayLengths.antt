-- How many switches the packets of a way pass: the numbers of hops of its paths to a node.
use Rattle.std.specs.Prelude.{◌≡◌, ℕ, ◌≤◌, List, length, Some}
use Rattle.vc_plan.specs.declared.path_fault.Hop.{Hop}
use Rattle.vc_plan.specs.declared.plan.Plan.{Plan}
use Rattle.vc_plan.specs.declared.port.Port.{Port}
use Rattle.vc_plan.specs.declared.port.Spot.TheVariants.{Node}
use Rattle.vc_plan.specs.declared.vlink.End.{End}
use Rattle.vc_plan.specs.declared.vlink.Vlink.{Vlink}
use Rattle.vc_plan.specs.declared.vlink_length.VlinkLength.{VlinkLength}
use Rattle.vc_plan.specs.declared.way_length.WayLength.{WayLength}
use Rattle.vc_plan.specs.Faults.{Path}
use Rattle.vc_plan.specs.Wires.{across, sending_port}

-- a path of n hops leads from port p with headers s to a port at a node
pub record Arrives (net : Plan) (p : Port) (s : List ℕ) (n : ℕ) : Type 0 where
  pub hops : List Hop
  pub stands : Port
  pub headers : List ℕ
  pub node : ℕ
  pub path : Path net p s hops stands headers
  pub ends : stands.spot ≡ Node node
  pub count : length hops ≡ n

-- there are paths of the least and of the greatest number of hops, and the number of each path is between
pub record AreBounds (net : Plan) (p : Port) (s : List ℕ) (l : WayLength) : Type 0 where
  pub shortest : Arrives net p s l.least
  pub longest : Arrives net p s l.most
  pub between : (n : ℕ) → Arrives net p s n → (l.least ≤ n) × (n ≤ l.most)

-- so it is of the packets that an end sends, from the other end of its wire on
pub record IsWayLength (net : Plan) (from : End) (l : WayLength) : Type 0 where
  pub port : Port
  pub comes : across net.wires (sending_port from) ≡ Some port
  pub bounds : AreBounds net port from.route l

-- from end a to end b, and back
pub record IsVlinkLength (net : Plan) (v : Vlink) (l : VlinkLength) : Type 0 where
  pub there : IsWayLength net v.a l.there
  pub back : IsWayLength net v.b l.back
