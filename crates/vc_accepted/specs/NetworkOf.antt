-- The network of which a plan speaks, in the words of the laws.
use Rattle.std.specs.Prelude.{ℕ, ◌==◌, length, map, if◌then◌else◌, Option, Some, None}
use Rattle.vc_plan.specs.declared.plan.Plan.{Plan}
use Rattle.vc_plan.specs.declared.port.Port.{Port}
use Rattle.vc_plan.specs.declared.port.Spot.{Spot}
use Rattle.vc_plan.specs.declared.port.Spot.TheVariants.{Node, Switch}
use Rattle.vc_plan.specs.declared.port.Wire.{Wire}
use Rattle.vc_plan.specs.declared.switch_plan.SwitchPlan.{SwitchPlan}
use Rattle.vc_plan.specs.declared.switch_plan.RandomInput.{RandomInput}
use Rattle.vc_plan.specs.declared.vlink.End.{End}
use Rattle.vc_plan.specs.declared.vlink.Vlink.{Vlink}
use Rattle.vc_plan.specs.declared.channel.Channel.{Channel}
use Rattle.vc_plan.specs.declared.channel.Home.{Home}
use Rattle.vc_plan.specs.declared.channel.Home.TheVariants.{Way, Inside}
use Rattle.vc_plan.specs.Hops.{random_at, deletes}
use Rattle.vc_machine.specs.Paths.{AtNode, AtSwitch}
use Rattle.vc_machine.specs.Paths as paths
use Rattle.vc_switch.specs.Forward.{Interval}
use Rattle.vc_switch.specs.Forward as forward
use Rattle.vc_network.specs.Plan as network

-- at most so many headers are on the way: a route has four at most, and version 2 lets switches put random ones before it
abbrev pub headers_of : Plan → ℕ
headers_of p = if p.version == 1 then 4 else 6

abbrev pub port_at : Spot → ℕ → paths.Port
port_at (Node n) link = AtNode n link
port_at (Switch n) link = AtSwitch n link

abbrev pub port_of : Port → paths.Port
port_of p = port_at p.spot p.link

abbrev pub wire_of : Wire → network.Wire
wire_of w = record { one = port_of w.one; two = port_of w.two }

abbrev pub interval_of : Option RandomInput → Option Interval
interval_of None = None
interval_of (Some r) = Some (record { lower = r.lower; limit = r.limit })

abbrev pub switch_of : SwitchPlan → forward.SwitchPlan
switch_of s = record { table = s.rows; random = λ link. interval_of (random_at s.random link); deletes = deletes s.delete }

abbrev pub end_of : End → network.End
end_of e = record { node = e.node; link = e.link; block = e.block; route = e.route }

abbrev pub link_of : Vlink → network.VirtualLink
link_of v = record { a = end_of v.a; b = end_of v.b }

abbrev pub home_of : Home → network.Home
home_of (Way vlink from_a) = network.Way vlink from_a
home_of (Inside node) = network.Inside node

abbrev pub home_in : Channel → network.Home
home_in c = home_of c.home

-- the plan's network
abbrev pub network_of : Plan → network.Plan
network_of p = record {
  headers = headers_of p;
  nodes = length p.nodes;
  switches = map switch_of p.switches;
  wires = map wire_of p.wires;
  links = map link_of p.vlinks;
  channels = map home_in p.channels;
}
