-- The limits that an accepted plan keeps, in words: how much there is of each thing, that numbers name what is there, and the form of
-- names.
use Rattle.std.specs.Prelude.{◌≡◌, ◌≢◌, ◌⊎◌, ℕ, ◌+◌, ◌≤◌, ◌<◌, true, List, [], Some, length, slice_get}
use Rattle.std.specs.List.{All}
use Rattle.vc_labels.specs.declared.row.Row.{Row}
use Rattle.vc_labels.specs.declared.action.Action.TheVariants.{Portal}
use Rattle.vc_process.specs.InOrder.{number}
use Rattle.vc_process.specs.Numbering.{written}
use Rattle.vc_process.specs.ProcessLimits.{depth_within, exps_within, in_length, names_fit}
use Rattle.vc_plan.specs.declared.channel.Channel.{Channel}
use Rattle.vc_plan.specs.declared.channel.Home.{Home}
use Rattle.vc_plan.specs.declared.channel.Home.TheVariants.{Way, Inside}
use Rattle.vc_plan.specs.declared.node_plan.NodePlan.{NodePlan}
use Rattle.vc_plan.specs.declared.node_plan.Variable.{Variable}
use Rattle.vc_plan.specs.declared.plan.Plan.{Plan}
use Rattle.vc_plan.specs.declared.port.Port.{Port}
use Rattle.vc_plan.specs.declared.port.Spot.{Spot}
use Rattle.vc_plan.specs.declared.port.Spot.TheVariants.{Node, Switch}
use Rattle.vc_plan.specs.declared.port.Wire.{Wire}
use Rattle.vc_plan.specs.declared.switch_plan.RandomInput.{RandomInput}
use Rattle.vc_plan.specs.declared.switch_plan.SwitchPlan.{SwitchPlan}
use Rattle.vc_plan.specs.declared.vlink.End.{End}
use Rattle.vc_plan.specs.declared.vlink.Vlink.{Vlink}
use Rattle.vc_plan.specs.Limits.{is_name, kinds_of}

-- 1 to 16 letters, digits, '_' and '-', the first a letter
abbrev pub IsName : List ℕ → Type 0
IsName name = is_name name ≡ true

-- it puts no random header, and has no portal
pub record IsOfVersionOne (s : SwitchPlan) : Type 0 where
  pub random : s.random ≡ []
  pub portals : All (λ (row : Row). row.action ≢ Portal) s.rows

-- the node or the switch of this number is there, and has a link of this number: a node 0 to 3, a switch 0 to 31
abbrev pub IsLinkOf : Plan → Spot → ℕ → Type 0
IsLinkOf p (Node n) link = (n < length p.nodes) × (link ≤ 3)
IsLinkOf p (Switch n) link = (n < length p.switches) × (link ≤ 31)

abbrev pub IsPortInLimits : Plan → Port → Type 0
IsPortInLimits p port = IsLinkOf p port.spot port.link

abbrev pub IsWireInLimits : Plan → Wire → Type 0
IsWireInLimits p w = IsPortInLimits p w.one × IsPortInLimits p w.two

-- an end is at a link of a node, and its packets leave with 1 to 4 headers
pub record IsEndInLimits (p : Plan) (e : End) : Type 0 where
  pub link : IsLinkOf p (Node e.node) e.link
  pub some_headers : 1 ≤ length e.route
  pub few_headers : length e.route ≤ 4

pub record IsVlinkInLimits (p : Plan) (v : Vlink) : Type 0 where
  pub name : IsName v.name
  pub a : IsEndInLimits p v.a
  pub b : IsEndInLimits p v.b

-- 1 to 64 headers of 16 bits, put at a link of the switch
pub record IsRangeInLimits (r : RandomInput) : Type 0 where
  pub link : r.link ≤ 31
  pub some : r.lower < r.limit
  pub few : r.limit ≤ r.lower + 64
  pub small : r.limit ≤ 65536

-- at most 64 rows, and at most one range for each link
pub record IsSwitchInLimits (s : SwitchPlan) : Type 0 where
  pub name : IsName s.name
  pub rows : length s.rows ≤ 64
  pub delete : All (λ link. link ≤ 31) s.delete
  pub ranges : All IsRangeInLimits s.random
  pub one_range : (i j : ℕ) (r t : RandomInput) → slice_get s.random i ≡ Some r → slice_get s.random j ≡ Some t → r.link ≡ t.link → i ≡ j

pub record IsNodeInLimits (p : Plan) (n : NodePlan) : Type 0 where
  pub name : IsName n.name
  pub var_names : All (λ (v : Variable). IsName v.name) n.vars
  pub vars : length n.vars ≤ 64
  -- how deep its process nests, and its expressions
  pub depth : depth_within (written n.process) 32 ≡ true
  pub expressions : exps_within (written n.process) 8 ≡ true
  -- how many processes are written in it
  pub parts : (number n.process).sites ≤ 4096
  -- its messages have at most 65,535 bytes
  pub message : in_length (written n.process) ≡ true
  -- it names channels and variables that are there, and variables of the kinds that it wants
  pub number : names_fit (written n.process) (kinds_of n.vars) (length p.channels) ≡ true

-- the virtual link or the node that carries a channel is there
abbrev pub IsHomeOf : Plan → Home → Type 0
IsHomeOf p (Way vlink from_a) = vlink < length p.vlinks
IsHomeOf p (Inside node) = node < length p.nodes

pub record IsChannelInLimits (p : Plan) (c : Channel) : Type 0 where
  pub name : IsName c.name
  pub home : IsHomeOf p c.home

pub record KeepsLimits (p : Plan) : Type 0 where
  -- version 2, or version 1 with switches of version 1
  pub version : (p.version ≡ 2) ⊎ ((p.version ≡ 1) × All IsOfVersionOne p.switches)
  pub few_nodes : length p.nodes ≤ 32
  pub few_switches : length p.switches ≤ 32
  pub few_wires : length p.wires ≤ 256
  pub few_vlinks : length p.vlinks ≤ 256
  pub few_channels : length p.channels ≤ 512
  pub nodes : All (IsNodeInLimits p) p.nodes
  pub switches : All IsSwitchInLimits p.switches
  pub wires : All (IsWireInLimits p) p.wires
  pub vlinks : All (IsVlinkInLimits p) p.vlinks
  pub channels : All (IsChannelInLimits p) p.channels
