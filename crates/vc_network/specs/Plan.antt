-- The plan of a network, and what it means: its ways, each node's ends, and when it is accepted.
use Rattle.std.specs.Prelude.{◌≡◌, ℕ, suc, ◌+◌, ◌-◌, ◌*◌, ◌/◌, ◌%◌, ◌≤◌, ◌<◌, Bool, true, false, not, ◌&&◌, ◌==◌, List, [], ◌∷◌, length, get_or, Option, Some, None, if◌then◌else◌}
use Rattle.vc_machine.specs.Paths.{Port, AtNode, AtSwitch, Delivers, Net, Channel, End as NetEnd}
use Rattle.vc_switch.specs.Forward.{SwitchPlan, Interval}
use Rattle.vc_labels.specs.declared.action.Action.TheVariants.{Out}
use Rattle.vc_labels.specs.Interval.{action_for}
use Rattle.vc_vcp.specs.Carrier.{Ends, End as NodeEnd}

pub record Wire : Type 0 where
  pub one : Port
  pub two : Port

-- one end of a virtual link
pub record End : Type 0 where
  pub node : ℕ
  pub link : ℕ
  pub block : ℕ
  pub route : List ℕ

pub record VirtualLink : Type 0 where
  pub a : End
  pub b : End

-- where a channel is: on one way of a virtual link, or inside a node
pub data Home : Type 0 where
  Way : (vlink : ℕ) (from_a : Bool) → Home
  Inside : (node : ℕ) → Home

pub record Plan : Type 0 where
  pub headers : ℕ  -- at most so many are on a packet's way
  pub nodes : ℕ
  pub switches : List SwitchPlan
  pub wires : List Wire
  pub links : List VirtualLink
  pub channels : List Home

-- no packet's body is longer: its headers of two bytes each, and 32 bytes of data
abbrev pub body_limit : Plan → ℕ
body_limit plan = 2 * plan.headers + 32

abbrev pub switch_plan : Plan → ℕ → SwitchPlan
switch_plan plan k = get_or plan.switches k (record { table = []; random = λ link. None; deletes = λ link. false })

abbrev pub virtual_link : Plan → ℕ → VirtualLink
virtual_link plan v = get_or plan.links v (record { a = nowhere; b = nowhere })
  where
    nowhere : End
    nowhere = record { node = 0; link = 0; block = 0; route = [] }

abbrev pub home : Plan → ℕ → Home
home plan c = get_or plan.channels c (Inside plan.nodes)  -- a channel past the list is in no node

-- the end from which a channel goes over a virtual link, and the other end
abbrev pub end_of : VirtualLink → Bool → End
end_of v true = v.a
end_of v false = v.b

-- Ways: 2 i goes from port one to port two of wire i, and 2 i + 1 back.
abbrev pub ways : Plan → ℕ
ways plan = 2 * length plan.wires

abbrev pub wire : Plan → ℕ → Wire
wire plan i = get_or plan.wires i (record { one = AtNode 0 0; two = AtNode 0 0 })

-- port one or port two of a wire
abbrev pub port_of : Wire → Bool → Port
port_of w true = w.one
port_of w false = w.two

-- the ports where a way begins and where it ends
abbrev pub near : Plan → ℕ → Port
near plan w = port_of (wire plan (w / 2)) (w % 2 == 0)

abbrev pub far : Plan → ℕ → Port
far plan w = port_of (wire plan (w / 2)) (not (w % 2 == 0))

abbrev pub port_eq : Port → Port → Bool
port_eq (AtNode n i) (AtNode m j) = (n == m) && (i == j)
port_eq (AtSwitch n i) (AtSwitch m j) = (n == m) && (i == j)
port_eq (AtNode n i) (AtSwitch m j) = false
port_eq (AtSwitch n i) (AtNode m j) = false

-- the way that leaves by the port, where the wires are numbered from i on
abbrev pub way_among : ℕ → List Wire → Port → ℕ
way_among i [] port = 2 * i
way_among i (w ∷ ws) port = if port_eq w.one port then 2 * i else if port_eq w.two port then 2 * i + 1 else way_among (suc i) ws port

abbrev pub way_from : Plan → Port → ℕ
way_from plan port = way_among 0 plan.wires port

-- the way leaves by the port; it comes in by the port
abbrev pub IsOutOf : Plan → ℕ → Port → Type 0
IsOutOf plan w port = (w < ways plan) × (near plan w ≡ port)

abbrev pub IsInto : Plan → ℕ → Port → Type 0
IsInto plan w port = (w < ways plan) × (far plan w ≡ port)

-- the port is on a wire
abbrev pub IsWired : Plan → Port → Type 0
IsWired plan port = (w : ℕ) × IsOutOf plan w port

-- each node's ends, by channel
abbrev pub end_here : ℕ → End → Option NodeEnd
end_here n e = if e.node == n then Some (record { link = e.link; block = e.block; route = e.route }) else None

abbrev pub output_end : Plan → ℕ → Home → Option NodeEnd
output_end plan n (Way v ab) = end_here n (end_of (virtual_link plan v) ab)
output_end plan n (Inside m) = None

abbrev pub input_end : Plan → ℕ → Home → Option NodeEnd
input_end plan n (Way v ab) = end_here n (end_of (virtual_link plan v) (not ab))
input_end plan n (Inside m) = None

abbrev pub ends : Plan → ℕ → Ends
ends plan n = record { output = λ c. output_end plan n (home plan c); input = λ c. input_end plan n (home plan c) }

-- the plan as ways, and the channels on them
abbrev pub is_virtual : Home → Bool
is_virtual (Way v ab) = true
is_virtual (Inside n) = false

abbrev pub net_end : Plan → End → NetEnd
net_end plan e = record { node = e.node; way = way_from plan (AtNode e.node e.link); block = e.block; route = e.route }

abbrev pub net_channel : Plan → Home → Channel
net_channel plan (Way v ab) = record { from = net_end plan (end_of (virtual_link plan v) ab); to = net_end plan (end_of (virtual_link plan v) (not ab)) }
net_channel plan (Inside n) = record { from = net_end plan (virtual_link plan 0).a; to = net_end plan (virtual_link plan 0).b }

abbrev pub net_of : Plan → Net
net_of plan = record {
  ways = ways plan;
  near = near plan;
  far = far plan;
  switch = switch_plan plan;
  chans = length plan.channels;
  virtual = λ c. is_virtual (home plan c);
  chan = λ c. net_channel plan (home plan c);
}

-- an accepted plan
pub record IsAccepted (plan : Plan) : Type 0 where
  -- no port is on two wires, or at both ends of one
  pub one_port : (i j : ℕ) (p q : Bool) → i < length plan.wires → j < length plan.wires → port_of (wire plan i) p ≡ port_of (wire plan j) q → (i ≡ j) × (p ≡ q)
  -- an end sends by a link that is on a wire, and so are all links of a group
  pub sends : (v : ℕ) (side : Bool) → v < length plan.links → IsWired plan (AtNode (end_of (virtual_link plan v) side).node (end_of (virtual_link plan v) side).link)
  pub groups : (k header first last link : ℕ) → action_for (switch_plan plan k).table header ≡ Some (Out first last) → first ≤ link → link ≤ last → IsWired plan (AtSwitch k link)
  -- no two ends have one node and block
  pub one_end : (v u : ℕ) (p q : Bool) → v < length plan.links → u < length plan.links → (end_of (virtual_link plan v) p).node ≡ (end_of (virtual_link plan u) q).node →
      (end_of (virtual_link plan v) p).block ≡ (end_of (virtual_link plan u) q).block → (v ≡ u) × (p ≡ q)
  -- a channel is on a virtual link of the plan, and alone on its way
  pub on_link : (c v : ℕ) (ab : Bool) → home plan c ≡ Way v ab → v < length plan.links
  pub one_channel : (c d v : ℕ) (ab : Bool) → home plan c ≡ Way v ab → home plan d ≡ Way v ab → c ≡ d
  -- every path from an end leads to the other end
  pub delivers : (v w : ℕ) (side : Bool) → v < length plan.links → IsOutOf plan w (AtNode (end_of (virtual_link plan v) side).node (end_of (virtual_link plan v) side).link) →
      Delivers (net_of plan) 32 w (end_of (virtual_link plan v) side).route (net_end plan (end_of (virtual_link plan v) (not side)))
  -- no route has more headers than may be on the way, and a random one may be the sixth
  pub headers : (v : ℕ) (side : Bool) → v < length plan.links → length (end_of (virtual_link plan v) side).route ≤ plan.headers
  pub sixth : (k link : ℕ) (i : Interval) → (switch_plan plan k).random link ≡ Some i → 6 ≤ plan.headers
  -- a random range has a value
  pub ranges : (k link : ℕ) (i : Interval) → (switch_plan plan k).random link ≡ Some i → i.lower < i.limit

-- the other direction of a way's wire
abbrev pub back : ℕ → ℕ
back w = if w % 2 == 0 then suc w else w - 1
