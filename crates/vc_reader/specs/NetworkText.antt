-- The network that a text means, or why the text is refused.
use Rattle.std.specs.Prelude.{◌≡◌, ℕ, List, [], ◌∷◌, length, Option, Some, None, Result, Ok, Err, IsUtf8}
use Rattle.std.specs.List.{slice_get}
use Rattle.serde_json.specs.Data.{Data}
use Rattle.serde_json.specs.Read.{read}
use Rattle.vc_process.specs.declared.process.Process.{Process}
use Rattle.vc_plan.specs.declared.plan.Plan.{Plan}
use Rattle.vc_plan.specs.declared.node_plan.NodePlan.{NodePlan}
use Rattle.vc_plan.specs.declared.node_plan.Variable.{Variable}
use Rattle.vc_plan.specs.declared.channel.Channel.{Channel}
use Rattle.vc_plan.specs.declared.switch_plan.SwitchPlan.{SwitchPlan}
use Rattle.vc_plan.specs.declared.port.Wire.{Wire}
use Rattle.vc_reader.specs.declared.word.Word.{Word}
use Rattle.vc_reader.specs.declared.word.Word.TheVariants as word
use Rattle.vc_reader.specs.declared.path.Step.{Step}
use Rattle.vc_reader.specs.declared.fault.Why.{Why}
use Rattle.vc_reader.specs.declared.fault.Why.TheVariants as why
use Rattle.vc_reader.specs.declared.fault.Fault.{Fault}
use Rattle.vc_reader.specs.declared.node.Head.{Head}
use Rattle.vc_reader.specs.declared.refused.ReadRefused.{ReadRefused}
use Rattle.vc_reader.specs.declared.refused.ReadRefused.TheVariants.{Json, Missing, Kind, Range, Unknown, Memory}
use Rattle.vc_reader.specs.Reading.{◌>>=◌, field, read_list, list_field, read_object, read_number}
use Rattle.vc_reader.specs.Network.{read_head, read_switch, read_wire, read_vlink, read_channel}
use Rattle.vc_reader.specs.Processes.{whole_process}

abbrev pub vars_of : Option Head → List Variable
vars_of None = []
vars_of (Some h) = h.vars

-- the process of the node whose number is that of the processes before it
abbrev pub node_process : List Head → List Channel → List Process → Data → Result Process Fault
node_process heads channels before = field word.Process (whole_process (vars_of (slice_get heads (length before))) channels)

-- the nodes, each of a head and its process
abbrev pub node_plans : List Head → List Process → List NodePlan
node_plans [] ps = []
node_plans (h ∷ hs) [] = []
node_plans (h ∷ hs) (p ∷ ps) = record { name = h.name; vars = h.vars; process = p } ∷ node_plans hs ps

abbrev pub network_words : List Word
network_words = word.Version ∷ word.Nodes ∷ word.Switches ∷ word.Wires ∷ word.Vlinks ∷ word.Channels ∷ []

-- the nodes that have these heads, or their first fault
abbrev pub read_nodes : List Head → List Channel → Data → Result (List NodePlan) Fault
read_nodes heads channels d = do
  processes ← field word.Nodes (read_list (node_process heads channels)) d
  Ok (node_plans heads processes)

-- the plan of these nodes, switches and wires, or its first fault
abbrev pub plan_with_wires : List Head → List SwitchPlan → List Wire → Data → Result Plan Fault
plan_with_wires heads switches wires d = do
  vlinks ← list_field word.Vlinks (read_vlink heads) d
  channels ← list_field word.Channels (read_channel heads vlinks) d
  nodes ← read_nodes heads channels d
  Ok (record { version = 2; nodes = nodes; switches = switches; wires = wires; vlinks = vlinks; channels = channels })

-- the plan of these nodes, in a file of this version
abbrev pub plan_with_nodes : ℕ → List Head → Data → Result Plan Fault
plan_with_nodes version heads d = do
  switches ← list_field word.Switches (read_switch version heads) d
  wires ← list_field word.Wires (λ _. read_wire heads switches) d
  plan_with_wires heads switches wires d

-- the plan that a value means, or its first fault; a file of version 1 is a network of version 2 without portals and random inputs
abbrev pub read_plan : Data → Result Plan Fault
read_plan d = do
  _ ← read_object network_words d
  version ← field word.Version (read_number 1 2) d
  heads ← field word.Nodes (read_list read_head) d
  plan_with_nodes version heads d

abbrev pub refusal : Why → List Step → ReadRefused
refusal why.Missing path = Missing path
refusal why.Kind path = Kind path
refusal why.Range path = Range path
refusal why.Unknown path = Unknown path

-- the text is UTF-8, and a value that means this
abbrev pub TextMeans : List ℕ → Result Plan Fault → Type 0
TextMeans text answer = (d : Data) × IsUtf8 text × (read text ≡ Some d) × (read_plan d ≡ answer)

-- what reading answers for a text: its plan, or its first fault; that it is no JSON; or that there was no memory
abbrev pub Reads : List ℕ → Result Plan ReadRefused → Type 0
Reads text (Ok plan) = TextMeans text (Ok plan)
Reads text (Err Memory) = Unit {0}
Reads text (Err Json) = IsUtf8 text → read text ≡ None
Reads text (Err r) = (f : Fault) × TextMeans text (Err f) × (r ≡ refusal f.why f.path)
