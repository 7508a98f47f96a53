-- A network as Graphviz text, with lines that its labels add.
use Rattle.std.specs.Prelude.{ℕ, ◌==◌, List, [], ◌∷◌, ◌++◌, if◌then◌else◌, codes, decimal, Option, Result, ⊤, slice_get}
use Rattle.std.specs.List.{enumerate_from, flat_map}
use Rattle.std.specs.Option.{option_map_or}
use Rattle.vc_draw.specs.declared.labels.Labels.{Labels}
use Rattle.vc_process.specs.declared.value_kind.ValueKind.{ValueKind}
use Rattle.vc_process.specs.declared.value_kind.ValueKind.TheVariants.{Int, Bytes}
use Rattle.vc_plan.specs.Names.{spot_name}
use Rattle.vc_plan.specs.declared.channel.Channel.{Channel}
use Rattle.vc_plan.specs.declared.channel.Home.{Home}
use Rattle.vc_plan.specs.declared.channel.Home.TheVariants.{Way, Inside}
use Rattle.vc_plan.specs.declared.node_plan.NodePlan.{NodePlan}
use Rattle.vc_plan.specs.declared.plan.Plan.{Plan}
use Rattle.vc_plan.specs.declared.port.Spot.{Spot}
use Rattle.vc_plan.specs.declared.port.Spot.TheVariants.{Node}
use Rattle.vc_plan.specs.declared.port.Wire.{Wire}
use Rattle.vc_plan.specs.declared.vlink.Vlink.{Vlink}
use Rattle.vc_text.specs.CheckText.{TellsAccepted}
use Rattle.vc_text.specs.FaultLine.{way_text}
use Rattle.vc_text.specs.declared.fault.RunFault.{RunFault}

-- no lines
abbrev pub no_labels : Labels
no_labels = record { nodes = []; wires = []; channels = [] }

-- the lines for the thing of this number
abbrev pub lines_at : List (List ℕ) → ℕ → List ℕ
lines_at labels n = option_map_or (λ lines. lines) (slice_get labels n) []

-- the label of a node with lines to show; without, it shows its name alone
abbrev pub place_label : List ℕ → List ℕ → List ℕ
place_label name [] = []
place_label name (c ∷ more) = codes " [label=\"" ++ name ++ codes "\\n" ++ (c ∷ more) ++ codes "\"]"

-- a node or a switch, by its name
unfoldable pub place_line : List ℕ → List ℕ → List ℕ
place_line name lines = codes "  \"" ++ name ++ codes "\"" ++ place_label name lines ++ codes ";\n"

abbrev pub node_line : List (List ℕ) → ℕ × NodePlan → List ℕ
node_line labels (n, node) = place_line node.name (lines_at labels n)

-- the two places that an edge joins
unfoldable pub edge_ends : Plan → Spot → Spot → List ℕ
edge_ends plan one two = codes "  \"" ++ spot_name plan one ++ codes "\" -- \"" ++ spot_name plan two ++ codes "\" ["

-- a wire, with the number of its link at each end
abbrev pub link_labels : Wire → List ℕ
link_labels w = codes "taillabel=\"" ++ decimal w.one.link ++ codes "\", headlabel=\"" ++ decimal w.two.link ++ codes "\""

-- and a label between them where there are lines to show
abbrev pub middle_label : List ℕ → List ℕ
middle_label [] = []
middle_label (c ∷ more) = codes ", label=\"" ++ (c ∷ more) ++ codes "\""

unfoldable pub wire_line : Plan → List (List ℕ) → ℕ × Wire → List ℕ
wire_line plan labels (i, w) = edge_ends plan w.one.spot w.two.spot ++ link_labels w ++ middle_label (lines_at labels i) ++ codes "];\n"

-- a channel's name and its kind
abbrev pub kind_text : ValueKind → List ℕ
kind_text Int = codes ": int"
kind_text Bytes = codes ": bytes"

abbrev pub channel_text : Channel → List ℕ
channel_text c = c.name ++ kind_text c.kind

-- a channel on virtual link n is a line of that link's label, behind the characters \n, and any other channel is none
abbrev pub way_label : ℕ → List ℕ → Channel → Home → List ℕ
way_label n lines c (Way vlink from_a) = if vlink == n then codes "\\n" ++ channel_text c ++ codes ", " ++ way_text from_a ++ lines else []
way_label n lines c (Inside node) = []

abbrev pub way_label_at : ℕ → List (List ℕ) → ℕ × Channel → List ℕ
way_label_at n labels (k, c) = way_label n (lines_at labels k) c c.home

-- virtual link n, with its name and its channels
unfoldable pub vlink_line : Plan → List (List ℕ) → ℕ × Vlink → List ℕ
vlink_line plan labels (n, v) =
    edge_ends plan (Node v.a.node) (Node v.b.node) ++ codes "style=dashed, label=\"" ++ v.name ++ flat_map (way_label_at n labels) (enumerate_from 0 plan.channels) ++ codes "\"];\n"

-- a channel inside a node joins the node to itself, and any other channel has no edge
abbrev pub inside_line : Plan → List ℕ → Channel → Home → List ℕ
inside_line plan lines c (Inside node) = edge_ends plan (Node node) (Node node) ++ codes "style=dotted, label=\"" ++ channel_text c ++ lines ++ codes "\"];\n"
inside_line plan lines c (Way vlink from_a) = []

abbrev pub inside_line_at : Plan → List (List ℕ) → ℕ × Channel → List ℕ
inside_line_at plan labels (k, c) = inside_line plan (lines_at labels k) c c.home

-- nodes as boxes and switches as ellipses
unfoldable pub places_text : Plan → List (List ℕ) → List ℕ
places_text plan labels =
    codes "  node [shape=box];\n" ++ flat_map (node_line labels) (enumerate_from 0 plan.nodes)
    ++ codes "  node [shape=ellipse];\n" ++ flat_map (λ switch. place_line switch.name []) plan.switches

-- wires, virtual links, and channels inside nodes
unfoldable pub edges_text : Plan → Labels → List ℕ
edges_text plan labels =
    flat_map (wire_line plan labels.wires) (enumerate_from 0 plan.wires)
    ++ flat_map (vlink_line plan labels.channels) (enumerate_from 0 plan.vlinks)
    ++ flat_map (inside_line_at plan labels.channels) (enumerate_from 0 plan.channels)

unfoldable pub graph_text : Plan → Labels → List ℕ
graph_text plan labels = codes "graph network {\n" ++ places_text plan labels.nodes ++ edges_text plan labels ++ codes "}\n"

-- the text is the graph of an accepted network
abbrev pub WritesGraph : Option (List ℕ) → Option (List ℕ) → Option (List ℕ) → Result ⊤ RunFault → Type 0
WritesGraph = TellsAccepted (λ plan. graph_text plan no_labels)
