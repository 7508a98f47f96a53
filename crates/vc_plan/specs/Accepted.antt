-- A plan that may be accepted, in the field's words.
use Rattle.std.specs.Prelude.{◌≡◌, ◌≢◌, ℕ, Bool, true, false, not, if◌then◌else◌, List, Option, Some, None, slice_get, IsSome}
use Rattle.vc_labels.specs.Lawful.{IsLawful}
use Rattle.vc_process.specs.declared.channel_use.ChannelUse.{ChannelUse}
use Rattle.vc_process.specs.declared.value_kind.ValueKind.{ValueKind}
use Rattle.vc_process.specs.ChannelUses.{channel_uses}
use Rattle.vc_process.specs.Lawful.{Lawfully}
use Rattle.vc_process.specs.Numbering.{written}
use Rattle.vc_plan.specs.declared.plan.Plan.{Plan}
use Rattle.vc_plan.specs.declared.port.Port.{Port}
use Rattle.vc_plan.specs.declared.port.Wire.{Wire}
use Rattle.vc_plan.specs.declared.vlink.End.{End}
use Rattle.vc_plan.specs.declared.vlink.Vlink.{Vlink}
use Rattle.vc_plan.specs.declared.channel.Channel.{Channel}
use Rattle.vc_plan.specs.declared.channel.Home.{Home}
use Rattle.vc_plan.specs.declared.channel.Home.TheVariants.{Way, Inside}
use Rattle.vc_plan.specs.declared.node_plan.NodePlan.{NodePlan}
use Rattle.vc_plan.specs.declared.switch_plan.SwitchPlan.{SwitchPlan}
use Rattle.vc_plan.specs.Delivery.{IsLabelled}
use Rattle.vc_plan.specs.KeptLimits.{KeepsLimits}
use Rattle.vc_plan.specs.Limits.{kinds_of}
use Rattle.vc_plan.specs.Wires.{AreWiredRows, across, sending_port, switch_at}

-- port one or port two of a wire
abbrev pub port_of : Wire → Bool → Port
port_of w true = w.one
port_of w false = w.two

-- end a or end b of a virtual link
abbrev pub end_of : Vlink → Bool → End
end_of v true = v.a
end_of v false = v.b

-- a switch's rows are a lawful table, and each link of its groups is on a wire
pub record IsLawfulSwitch (p : Plan) (n : ℕ) (plan : SwitchPlan) : Type 0 where
  pub table : IsLawful plan.rows
  pub wired : AreWiredRows p n plan.rows

abbrev pub HasLawfulTables : Plan → Type 0
HasLawfulTables p = (n : ℕ) (plan : SwitchPlan) → switch_at p n ≡ Some plan → IsLawfulSwitch p n plan

-- the two ends of a virtual link are on different nodes
abbrev pub AreApart : List Vlink → Type 0
AreApart vs = (k : ℕ) (v : Vlink) → slice_get vs k ≡ Some v → v.a.node ≢ v.b.node

-- a channel is output on at node n, or else input on: there is that end of its way, or it is inside the node
abbrev pub IsAtEnd : Plan → Home → Bool → ℕ → Type 0
IsAtEnd p (Way v from_a) is_output n =
    (x : Vlink) × (slice_get p.vlinks v ≡ Some x) × ((end_of x (if is_output then from_a else not from_a)).node ≡ n)
IsAtEnd p (Inside m) is_output n = m ≡ n

-- a use is of the kind, where it is of one: a stop is of none
abbrev pub IsOfKind : Option ValueKind → ValueKind → Type 0
IsOfKind None kind = Unit {0}
IsOfKind (Some used) kind = used ≡ kind

-- a process of node n may use a channel so: it is there, at this end, and of this kind
pub record IsRightUse (p : Plan) (n : ℕ) (u : ChannelUse) : Type 0 where
  pub channel : Channel
  pub there : slice_get p.channels u.chan ≡ Some channel
  pub at_end : IsAtEnd p channel.home u.is_output n
  pub kind : IsOfKind u.kind channel.kind

abbrev pub uses_of : NodePlan → List ChannelUse
uses_of node = channel_uses (kinds_of node.vars) (written node.process)

-- each process uses its channels and variables lawfully
abbrev pub AreLawful : Plan → Type 0
AreLawful p = (n : ℕ) (node : NodePlan) → slice_get p.nodes n ≡ Some node → Lawfully (written node.process)

pub record IsAccepted (p : Plan) : Type 0 where
  -- it keeps each limit
  pub limits : KeepsLimits p
  -- no port is on two wires, or at both ends of one
  pub one_port : (i j : ℕ) (v w : Wire) (a b : Bool) → slice_get p.wires i ≡ Some v → slice_get p.wires j ≡ Some w → port_of v a ≡ port_of w b → (i ≡ j) × (a ≡ b)
  -- each end sends by a link that is on a wire
  pub sends : (k : ℕ) (v : Vlink) (a : Bool) → slice_get p.vlinks k ≡ Some v → IsSome (across p.wires (sending_port (end_of v a)))
  -- no two ends have one block of one node
  pub one_end : (i j : ℕ) (v w : Vlink) (a b : Bool) → slice_get p.vlinks i ≡ Some v → slice_get p.vlinks j ≡ Some w →
      (end_of v a).node ≡ (end_of w b).node → (end_of v a).block ≡ (end_of w b).block → (i ≡ j) × (a ≡ b)
  -- each table is lawful, and each link of its groups is on a wire
  pub tables : HasLawfulTables p
  -- every path from an end leads to the other end
  pub labelled : IsLabelled p p.vlinks
  -- the two ends of a virtual link are on different nodes
  pub apart : AreApart p.vlinks
  -- a channel is alone on its way
  pub one_channel : (c d : ℕ) (x y : Channel) (v : ℕ) (f : Bool) → slice_get p.channels c ≡ Some x → slice_get p.channels d ≡ Some y → x.home ≡ Way v f → y.home ≡ Way v f → c ≡ d
  -- each process uses only channels of its node, each at the right end and with the right kind
  pub uses : (n k : ℕ) (node : NodePlan) (u : ChannelUse) → slice_get p.nodes n ≡ Some node → slice_get (uses_of node) k ≡ Some u → IsRightUse p n u
  -- each process uses its channels and variables lawfully
  pub lawful_use : AreLawful p
