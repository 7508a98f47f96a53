-- What `check` asks of a plan, and the first thing that it can find wrong.
use Rattle.std.specs.Prelude.{◌≡◌, ◌≢◌, ℕ, suc, ◌<◌, Bool, true, false, ◌==◌, ◌&&◌, not, List, [], ◌∷◌, ◌++◌, Option, Some, None, slice_get, is_some, if◌then◌else◌, ◌⊎◌}
use Rattle.std.specs.List.{list_any}
use Rattle.std.specs.Option.{option_or}
use Rattle.vc_labels.specs.declared.fault.TableFault.{TableFault}
use Rattle.vc_labels.specs.declared.fault.TableFault.TheVariants.{BadLink}
use Rattle.vc_labels.specs.Fault.{table_fault}
use Rattle.vc_labels.specs.Lawful.{IsLawful}
use Rattle.vc_process.specs.declared.value_kind.ValueKind.{ValueKind}
use Rattle.vc_process.specs.declared.channel_use.ChannelUse.{ChannelUse}
use Rattle.vc_process.specs.Lawful.{Lawfully, Offence, channel, variable, FirstOffence}
use Rattle.vc_process.specs.Limits.{same_kind}
use Rattle.vc_process.specs.Numbering.{written}
use Rattle.vc_plan.specs.declared.plan.Plan.{Plan}
use Rattle.vc_plan.specs.declared.port.Port.{Port}
use Rattle.vc_plan.specs.declared.port.Wire.{Wire}
use Rattle.vc_plan.specs.declared.vlink.End.{End}
use Rattle.vc_plan.specs.declared.vlink.Vlink.{Vlink}
use Rattle.vc_plan.specs.declared.channel.Channel.{Channel}
use Rattle.vc_plan.specs.declared.channel.Home.{Home}
use Rattle.vc_plan.specs.declared.channel.Home.TheVariants.{Way, Inside}
use Rattle.vc_plan.specs.declared.node_plan.NodePlan.{NodePlan}
use Rattle.vc_plan.specs.declared.node_plan.Variable.{Variable}
use Rattle.vc_plan.specs.declared.switch_plan.SwitchPlan.{SwitchPlan}
use Rattle.vc_plan.specs.declared.path_fault.PathFault.{PathFault}
use Rattle.vc_plan.specs.declared.fault.Fault.{Fault}
use Rattle.vc_plan.specs.declared.fault.Fault.TheVariants as fault
use Rattle.vc_plan.specs.declared.labelling.FaultyPath.{FaultyPath}
use Rattle.vc_plan.specs.declared.check_refused.CheckRefused.{CheckRefused}
use Rattle.vc_plan.specs.declared.check_refused.CheckRefused.TheVariants as why
use Rattle.vc_plan.specs.Labelling.{IsFirstFault}
use Rattle.vc_plan.specs.Accepted.{AreApart, HasLawfulTables, IsLawfulSwitch, uses_of}
use Rattle.vc_plan.specs.Limits.{limit_broken}
use Rattle.vc_plan.specs.Delivery.{IsLabelled}
use Rattle.vc_plan.specs.Wires.{same_port, AreWiredRows, across, sending_port, switch_at}

-- the first of a list that stood before
abbrev pub repeated : {A : Type 0} → (A → A → Bool) → List A → List A → Option A
repeated same seen [] = None
repeated same seen (x ∷ xs) = if list_any (same x) seen then Some x else repeated same (seen ++ x ∷ []) xs

abbrev pub ports : List Wire → List Port
ports [] = []
ports (w ∷ ws) = w.one ∷ w.two ∷ ports ws

-- a port that stands on two wires, or at both ends of one
abbrev pub port_twice : List Wire → Option Port
port_twice wires = repeated same_port [] (ports wires)

-- an end's sending port, where it is on no wire
abbrev pub unwired_port : List Wire → End → Option Port
unwired_port wires e = if is_some (across wires (sending_port e)) then None else Some (sending_port e)

abbrev pub port_missing : List Wire → List Vlink → Option Port
port_missing wires [] = None
port_missing wires (v ∷ vs) = option_or (unwired_port wires v.a) (option_or (unwired_port wires v.b) (port_missing wires vs))

-- a block of a node
abbrev pub block_of : End → ℕ × ℕ
block_of e = (e.node, e.block)

abbrev pub same_block : ℕ × ℕ → ℕ × ℕ → Bool
same_block x y = x.0 == y.0 && x.1 == y.1

abbrev pub blocks : List Vlink → List (ℕ × ℕ)
blocks [] = []
blocks (v ∷ vs) = block_of v.a ∷ block_of v.b ∷ blocks vs

-- a block that two ends have
abbrev pub block_twice : List Vlink → Option (ℕ × ℕ)
block_twice vlinks = repeated same_block [] (blocks vlinks)

-- the table's fault, or else a link without a wire
abbrev pub IsSwitchFault : Plan → ℕ → SwitchPlan → TableFault → Type 0
IsSwitchFault p n plan fault =
    (table_fault plan.rows ≡ Some fault) ⊎ (IsLawful plan.rows × (fault ≡ BadLink) × ¬ AreWiredRows p n plan.rows)

-- the first switch with a fault
pub record IsFirstTable (p : Plan) (n : ℕ) (fault : TableFault) : Type 0 where
  pub plan : SwitchPlan
  pub there : switch_at p n ≡ Some plan
  pub is : IsSwitchFault p n plan fault
  pub earlier : (k : ℕ) (other : SwitchPlan) → k < n → switch_at p k ≡ Some other → IsLawfulSwitch p k other

pub record IsFirstSameNode (vs : List Vlink) (n : ℕ) : Type 0 where
  pub vlink : Vlink
  pub there : slice_get vs n ≡ Some vlink
  pub is : vlink.a.node ≡ vlink.b.node
  pub earlier : (k : ℕ) (v : Vlink) → k < n → slice_get vs k ≡ Some v → v.a.node ≢ v.b.node

abbrev pub same_bool : Bool → Bool → Bool
same_bool true b = b
same_bool false b = not b

-- the two channels are on one way of a virtual link
abbrev pub same_way : Home → Home → Bool
same_way (Way v f) (Way w g) = v == w && same_bool f g
same_way (Way v f) (Inside n) = false
same_way (Inside n) h = false

-- the first channel, of these that are numbered from n on, whose way stood before
abbrev pub way_twice_from : ℕ → List Home → List Channel → Option ℕ
way_twice_from n seen [] = None
way_twice_from n seen (c ∷ cs) = if list_any (same_way c.home) seen then Some n else way_twice_from (suc n) (seen ++ c.home ∷ []) cs

abbrev pub way_twice : List Channel → Option ℕ
way_twice channels = way_twice_from 0 [] channels

-- the node of end a, or of end b
abbrev pub end_is_at : Vlink → Bool → ℕ → Bool
end_is_at v true n = v.a.node == n
end_is_at v false n = v.b.node == n

abbrev pub end_is_there : Option Vlink → Bool → ℕ → Bool
end_is_there None is_a n = false
end_is_there (Some v) is_a n = end_is_at v is_a n

-- the node is at the outputting end of the channel, or at its inputting end
abbrev pub has_end : Plan → Home → Bool → ℕ → Bool
has_end p (Way v from_a) is_output n = end_is_there (slice_get p.vlinks v) (same_bool from_a is_output) n
has_end p (Inside m) is_output n = m == n

-- a stop is of no kind
abbrev pub kind_fits : Option ValueKind → ValueKind → Bool
kind_fits None k = true
kind_fits (Some j) k = same_kind j k

abbrev pub channel_used : Plan → ℕ → ChannelUse → Option Channel → Bool
channel_used p n u None = false
channel_used p n u (Some c) = has_end p c.home u.is_output n && kind_fits u.kind c.kind

-- a process of node n may use a channel so
abbrev pub use_ok : Plan → ℕ → ChannelUse → Bool
use_ok p n u = channel_used p n u (slice_get p.channels u.chan)

-- the channel of the first use that is wrong
abbrev pub wrong_use : Plan → ℕ → List ChannelUse → Option ℕ
wrong_use p n [] = None
wrong_use p n (u ∷ us) = if use_ok p n u then wrong_use p n us else Some u.chan

-- the same, node by node, of these that are numbered from n on
abbrev pub misused_from : Plan → ℕ → List NodePlan → Option ℕ
misused_from p n [] = None
misused_from p n (node ∷ nodes) = option_or (wrong_use p n (uses_of node)) (misused_from p (suc n) nodes)

abbrev pub misused : Plan → Option ℕ
misused p = misused_from p 0 p.nodes

-- a channel on a way that stood before, or else one that a process misuses
abbrev pub channel_fault : Plan → Option ℕ
channel_fault p = option_or (way_twice p.channels) (misused p)

-- the name of the channel or the variable, if there is such a one
abbrev pub channel_name : Option Channel → Option (List ℕ)
channel_name None = None
channel_name (Some c) = Some c.name

abbrev pub variable_name : Option Variable → Option (List ℕ)
variable_name None = None
variable_name (Some v) = Some v.name

abbrev pub offence_name : Plan → NodePlan → Offence → Option (List ℕ)
offence_name p node (channel c) = channel_name (slice_get p.channels c)
offence_name p node (variable v) = variable_name (slice_get node.vars v)

-- the first offence of its process is by the channel or the variable of this name
pub record IsUsage (p : Plan) (node : NodePlan) (name : List ℕ) : Type 0 where
  pub offence : Offence
  pub is : FirstOffence (written node.process) offence
  pub named : offence_name p node offence ≡ Some name

-- the first node whose process doesn't
pub record IsFirstUsage (p : Plan) (n : ℕ) (name : List ℕ) : Type 0 where
  pub node : NodePlan
  pub there : slice_get p.nodes n ≡ Some node
  pub is : IsUsage p node name
  pub earlier : (k : ℕ) (other : NodePlan) → k < n → slice_get p.nodes k ≡ Some other → Lawfully (written other.process)

-- a plan that passes each test, in their order
pub record PassesLimits (p : Plan) : Type 0 where
  pub limits : limit_broken p ≡ None

pub record PassesWires (p : Plan) : Type 0 where
  pub before : PassesLimits p
  pub once : port_twice p.wires ≡ None

pub record PassesPorts (p : Plan) : Type 0 where
  pub before : PassesWires p
  pub ports : port_missing p.wires p.vlinks ≡ None

pub record PassesBlocks (p : Plan) : Type 0 where
  pub before : PassesPorts p
  pub blocks : block_twice p.vlinks ≡ None

pub record PassesTables (p : Plan) : Type 0 where
  pub before : PassesBlocks p
  pub tables : HasLawfulTables p

pub record PassesPaths (p : Plan) : Type 0 where
  pub before : PassesTables p
  pub labelled : IsLabelled p p.vlinks

pub record PassesNodes (p : Plan) : Type 0 where
  pub before : PassesPaths p
  pub apart : AreApart p.vlinks

pub record PassesChannels (p : Plan) : Type 0 where
  pub before : PassesNodes p
  pub channels : channel_fault p ≡ None

-- a path with its fault, which shows by this random value
abbrev pub astray : PathFault → Option ℕ → Fault → FaultyPath
astray f v fault =
    record { vlink = f.vlink; from_a = f.from_a; start = f.start; hops = f.hops; last = f.last; value = v; fault = fault }

abbrev pub IsPathCause : Plan → PathFault → Option ℕ → Fault → Type 0
IsPathCause p f v fault = PassesTables p × IsFirstFault p p.vlinks (astray f v fault)

-- the first test that a plan fails, and where
abbrev pub IsCause : Plan → CheckRefused → Type 0
IsCause p (why.Limit word) = limit_broken p ≡ Some word
IsCause p (why.PortTwice port) = PassesLimits p × (port_twice p.wires ≡ Some port)
IsCause p (why.PortMissing port) = PassesWires p × (port_missing p.wires p.vlinks ≡ Some port)
IsCause p (why.BlockTwice node block) = PassesPorts p × (block_twice p.vlinks ≡ Some (node, block))
IsCause p (why.Table n fault) = PassesBlocks p × IsFirstTable p n fault
IsCause p (why.NoInterval f) = IsPathCause p f f.value fault.NoInterval
IsCause p (why.WrongEnd f) = IsPathCause p f f.value fault.WrongEnd
IsCause p (why.StackEmpty f) = IsPathCause p f f.value fault.StackEmpty
-- a header for which there is no room is not put, so the path shows none
IsCause p (why.StackFull f) = (f.value ≡ None) × ((v : Option ℕ) × IsPathCause p f v fault.StackFull)
IsCause p (why.Hops f) = IsPathCause p f f.value fault.Hops
IsCause p (why.SameNode n) = PassesPaths p × IsFirstSameNode p.vlinks n
IsCause p (why.Channel n) = PassesNodes p × (channel_fault p ≡ Some n)
IsCause p (why.Usage n name) = PassesChannels p × IsFirstUsage p n name
IsCause p why.Memory = Unit {0}
