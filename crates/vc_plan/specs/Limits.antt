-- The limits of a plan, each as a test, and the first that is broken.
use Rattle.std.specs.Prelude.{ℕ, ◌+◌, Bool, true, false, ◌&&◌, ◌||◌, ◌==◌, not, List, [], ◌∷◌, length, nat_le, nat_lt, map, Option, Some, None}
use Rattle.std.specs.List.{list_all, list_any}
use Rattle.vc_labels.specs.declared.row.Row.{Row}
use Rattle.vc_labels.specs.declared.action.Action.{Action}
use Rattle.vc_labels.specs.declared.action.Action.TheVariants.{Out, Portal}
use Rattle.vc_process.specs.declared.value_kind.ValueKind.{ValueKind}
use Rattle.vc_process.specs.InOrder.{number}
use Rattle.vc_process.specs.Numbering.{written}
use Rattle.vc_process.specs.ProcessLimits.{depth_within, exps_within, in_length, names_fit}
use Rattle.vc_plan.specs.declared.plan.Plan.{Plan}
use Rattle.vc_plan.specs.declared.node_plan.NodePlan.{NodePlan}
use Rattle.vc_plan.specs.declared.node_plan.Variable.{Variable}
use Rattle.vc_plan.specs.declared.switch_plan.SwitchPlan.{SwitchPlan}
use Rattle.vc_plan.specs.declared.switch_plan.RandomInput.{RandomInput}
use Rattle.vc_plan.specs.declared.port.Port.{Port}
use Rattle.vc_plan.specs.declared.port.Wire.{Wire}
use Rattle.vc_plan.specs.declared.port.Spot.{Spot}
use Rattle.vc_plan.specs.declared.port.Spot.TheVariants.{Node, Switch}
use Rattle.vc_plan.specs.declared.vlink.End.{End}
use Rattle.vc_plan.specs.declared.vlink.Vlink.{Vlink}
use Rattle.vc_plan.specs.declared.channel.Channel.{Channel}
use Rattle.vc_plan.specs.declared.channel.Home.{Home}
use Rattle.vc_plan.specs.declared.channel.Home.TheVariants.{Way, Inside}
use Rattle.vc_plan.specs.declared.limit_word.LimitWord.{LimitWord}
use Rattle.vc_plan.specs.declared.limit_word.LimitWord.TheVariants as word

abbrev pub is_portal : Action → Bool
is_portal (Out first last) = false
is_portal Portal = true

abbrev pub is_empty : {A : Type 0} → List A → Bool
is_empty [] = true
is_empty (x ∷ xs) = false

-- nothing that version 1 hasn't
abbrev pub switch_in_version_one : SwitchPlan → Bool
switch_in_version_one s = is_empty s.random && list_all (λ (row : Row). not (is_portal row.action)) s.rows

abbrev pub version_ok : Plan → Bool
version_ok p = p.version == 2 || (p.version == 1 && list_all switch_in_version_one p.switches)

abbrev pub vars_ok : NodePlan → Bool
vars_ok n = nat_le (length n.vars) 64

abbrev pub rows_ok : SwitchPlan → Bool
rows_ok s = nat_le (length s.rows) 64

abbrev pub route_ok : End → Bool
route_ok e = nat_le 1 (length e.route) && nat_le (length e.route) 4

abbrev pub routes_ok : Vlink → Bool
routes_ok v = route_ok v.a && route_ok v.b

-- a node has links 0 to 3, and a switch 0 to 31
abbrev pub link_ok : Spot → ℕ → Bool
link_ok (Node n) link = nat_le link 3
link_ok (Switch n) link = nat_le link 31

abbrev pub port_ok : Port → Bool
port_ok p = link_ok p.spot p.link

abbrev pub wire_ok : Wire → Bool
wire_ok w = port_ok w.one && port_ok w.two

abbrev pub ends_ok : Vlink → Bool
ends_ok v = nat_le v.a.link 3 && nat_le v.b.link 3

abbrev pub switch_links_ok : SwitchPlan → Bool
switch_links_ok s = list_all (λ l. nat_le l 31) s.delete && list_all (λ (r : RandomInput). nat_le r.link 31) s.random

-- 1 to 64 values, each a header
abbrev pub range_ok : RandomInput → Bool
range_ok r = nat_lt r.lower r.limit && nat_le r.limit (r.lower + 64) && nat_le r.limit 65536

-- no link has two ranges
abbrev pub links_differ : List RandomInput → Bool
links_differ [] = true
links_differ (r ∷ rs) = not (list_any (λ (s : RandomInput). s.link == r.link) rs) && links_differ rs

abbrev pub random_ok : SwitchPlan → Bool
random_ok s = list_all range_ok s.random && links_differ s.random

-- a process nests at most 32 deep, and an expression 8
abbrev pub depth_ok : NodePlan → Bool
depth_ok n = depth_within (written n.process) 32 && exps_within (written n.process) 8

-- how many processes are written in a node
abbrev pub parts_ok : NodePlan → Bool
parts_ok n = nat_le (number n.process).sites 4096

abbrev pub message_ok : NodePlan → Bool
message_ok n = in_length (written n.process)

abbrev pub kinds_of : List Variable → List ValueKind
kinds_of = map (λ (v : Variable). v.kind)

-- the numbers of a plan's parts name such parts
abbrev pub spot_there : Plan → Spot → Bool
spot_there p (Node n) = nat_lt n (length p.nodes)
spot_there p (Switch n) = nat_lt n (length p.switches)

abbrev pub wire_there : Plan → Wire → Bool
wire_there p w = spot_there p w.one.spot && spot_there p w.two.spot

abbrev pub ends_there : Plan → Vlink → Bool
ends_there p v = nat_lt v.a.node (length p.nodes) && nat_lt v.b.node (length p.nodes)

abbrev pub home_there : Plan → Home → Bool
home_there p (Way vlink from_a) = nat_lt vlink (length p.vlinks)
home_there p (Inside node) = nat_lt node (length p.nodes)

abbrev pub process_names : Plan → NodePlan → Bool
process_names p n = names_fit (written n.process) (kinds_of n.vars) (length p.channels)

abbrev pub number_ok : Plan → Bool
number_ok p =
    list_all (wire_there p) p.wires && (list_all (ends_there p) p.vlinks
    && (list_all (λ (c : Channel). home_there p c.home) p.channels && list_all (process_names p) p.nodes))

-- ASCII letters, digits, '_' and '-'
abbrev pub is_letter : ℕ → Bool
is_letter b = (nat_le 65 b && nat_le b 90) || (nat_le 97 b && nat_le b 122)

abbrev pub is_name_byte : ℕ → Bool
is_name_byte b = is_letter b || ((nat_le 48 b && nat_le b 57) || (b == 95 || b == 45))

abbrev pub begins_with_letter : List ℕ → Bool
begins_with_letter [] = false
begins_with_letter (b ∷ bs) = is_letter b

-- 1 to 16 of these, the first a letter
abbrev pub is_name : List ℕ → Bool
is_name bs = begins_with_letter bs && (nat_le (length bs) 16 && list_all is_name_byte bs)

abbrev pub node_names_ok : NodePlan → Bool
node_names_ok n = is_name n.name && list_all (λ (v : Variable). is_name v.name) n.vars

abbrev pub names_ok : Plan → Bool
names_ok p =
    list_all node_names_ok p.nodes && (list_all (λ (s : SwitchPlan). is_name s.name) p.switches
    && (list_all (λ (v : Vlink). is_name v.name) p.vlinks && list_all (λ (c : Channel). is_name c.name) p.channels))

abbrev pub links_ok : Plan → Bool
links_ok p = list_all wire_ok p.wires && (list_all ends_ok p.vlinks && list_all switch_links_ok p.switches)

-- the word, if its test fails; else what comes next
abbrev pub unless_ok : Bool → LimitWord → Option LimitWord → Option LimitWord
unless_ok true w next = next
unless_ok false w next = Some w

-- the first limit that is broken, how many there are of each thing coming first, then their parts, then their numbers and names
abbrev pub number_broken : Plan → Option LimitWord
number_broken p = unless_ok (number_ok p) word.Number (unless_ok (names_ok p) word.Name None)

abbrev pub process_broken : Plan → Option LimitWord
process_broken p =
    unless_ok (list_all depth_ok p.nodes) word.Depth (unless_ok (list_all parts_ok p.nodes) word.Parts
    (unless_ok (list_all message_ok p.nodes) word.Message (number_broken p)))

abbrev pub part_broken : Plan → Option LimitWord
part_broken p =
    unless_ok (list_all vars_ok p.nodes) word.Vars (unless_ok (list_all rows_ok p.switches) word.Rows (unless_ok (list_all routes_ok p.vlinks) word.Route
    (unless_ok (links_ok p) word.Link (unless_ok (list_all random_ok p.switches) word.Random (process_broken p)))))

abbrev pub limit_broken : Plan → Option LimitWord
limit_broken p =
    unless_ok (version_ok p) word.Version (unless_ok (nat_le (length p.nodes) 32) word.Nodes (unless_ok (nat_le (length p.switches) 32) word.Switches
    (unless_ok (nat_le (length p.wires) 256) word.Wires (unless_ok (nat_le (length p.vlinks) 256) word.Vlinks
    (unless_ok (nat_le (length p.channels) 512) word.Channels (part_broken p))))))
