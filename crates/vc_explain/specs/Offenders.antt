-- What a refusal names, by its path in the network file.
use Rattle.std.specs.Prelude.{ℕ, ◌==◌, ◌&&◌, ◌||◌, Bool, true, false, not, if◌then◌else◌, List, [], ◌∷◌, ◌++◌, take, Option, Some, None, slice_get}
use Rattle.std.specs.List.{enumerate_from, flat_map, position}
use Rattle.vc_plan.specs.declared.channel.Channel.{Channel}
use Rattle.vc_plan.specs.declared.check_refused.CheckRefused.{CheckRefused}
use Rattle.vc_plan.specs.declared.check_refused.CheckRefused.TheVariants as check
use Rattle.vc_plan.specs.declared.limit_word.LimitWord.{LimitWord}
use Rattle.vc_plan.specs.declared.limit_word.LimitWord.TheVariants as limit
use Rattle.vc_plan.specs.declared.path_fault.PathFault.{PathFault}
use Rattle.vc_plan.specs.declared.plan.Plan.{Plan}
use Rattle.vc_plan.specs.declared.port.Port.{Port}
use Rattle.vc_plan.specs.declared.port.Spot.{Spot}
use Rattle.vc_plan.specs.declared.port.Spot.TheVariants.{Node, Switch}
use Rattle.vc_plan.specs.declared.port.Wire.{Wire}
use Rattle.vc_plan.specs.declared.vlink.End.{End}
use Rattle.vc_plan.specs.declared.vlink.Vlink.{Vlink}
use Rattle.vc_plan.specs.Limits.{depth_ok, ends_ok, parts_ok, random_ok, routes_ok, rows_ok, switch_links_ok, vars_ok, wire_ok}
use Rattle.vc_plan.specs.Wires.{same_port, switch_at}
use Rattle.vc_reader.specs.declared.path.Step.{Step}
use Rattle.vc_reader.specs.declared.path.Step.TheVariants.{Field, Index}
use Rattle.vc_reader.specs.declared.word.Word.{Word}
use Rattle.vc_reader.specs.declared.word.Word.TheVariants as word
use Rattle.vc_explain.specs.declared.offence.Places.{Places}
use Rattle.vc_explain.specs.declared.offender.Offender.{Offender}
use Rattle.vc_explain.specs.declared.offender.Offender.TheVariants.{All, Item, Part, Place}
use Rattle.vc_explain.specs.Details.{bad_row}
use Rattle.vc_explain.specs.Misuses.{earlier_on_way, misuse}
use Rattle.vc_explain.specs.Offences.{offence_of}

-- a list of the file, an item of it, a field of an item, or a place in a process
abbrev pub path_of : Offender → List Step
path_of (All list) = Field list ∷ []
path_of (Item list n) = Field list ∷ Index n ∷ []
path_of (Part list n field) = Field list ∷ Index n ∷ Field field ∷ []
path_of (Place path) = path

-- the number of the first that fails a test
abbrev pub first_failing : {A : Type 0} → (A → Bool) → List A → Option ℕ
first_failing test xs = position (λ x. not (test x)) xs

-- an item of a list, if there is one, or a field of it
abbrev pub of_item : Word → Option ℕ → List Offender
of_item list None = []
of_item list (Some n) = Item list n ∷ []

abbrev pub of_part : Word → Word → Option ℕ → List Offender
of_part list field None = []
of_part list field (Some n) = Part list n field ∷ []

-- the wire of this number, else the virtual link, else the switch
abbrev pub of_first : Option ℕ → Option ℕ → Option ℕ → List Offender
of_first (Some wire) vlink switch = Item word.Wires wire ∷ []
of_first None (Some vlink) switch = Item word.Vlinks vlink ∷ []
of_first None None switch = of_item word.Switches switch

-- the first part that breaks a limit, or the field of the file that does
abbrev pub of_limit : Plan → LimitWord → List Offender
of_limit plan limit.Version = All word.Version ∷ []
of_limit plan limit.Nodes = All word.Nodes ∷ []
of_limit plan limit.Switches = All word.Switches ∷ []
of_limit plan limit.Wires = All word.Wires ∷ []
of_limit plan limit.Vlinks = All word.Vlinks ∷ []
of_limit plan limit.Channels = All word.Channels ∷ []
of_limit plan limit.Vars = of_part word.Nodes word.Vars (first_failing vars_ok plan.nodes)
of_limit plan limit.Rows = of_part word.Switches word.Table (first_failing rows_ok plan.switches)
of_limit plan limit.Route = of_item word.Vlinks (first_failing routes_ok plan.vlinks)
of_limit plan limit.Link = of_first (first_failing wire_ok plan.wires) (first_failing ends_ok plan.vlinks) (first_failing switch_links_ok plan.switches)
of_limit plan limit.Random = of_part word.Switches word.Random (first_failing random_ok plan.switches)
of_limit plan limit.Depth = of_part word.Nodes word.Process (first_failing depth_ok plan.nodes)
of_limit plan limit.Parts = of_part word.Nodes word.Process (first_failing parts_ok plan.nodes)
of_limit plan other = []

abbrev pub of_spot : Spot → Offender
of_spot (Node n) = Item word.Nodes n
of_spot (Switch n) = Item word.Switches n

-- wire n, where it has the port
abbrev pub of_wire : Port → ℕ × Wire → List Offender
of_wire port (n, w) = if same_port w.one port || same_port w.two port then Item word.Wires n ∷ [] else []

-- the first two wires that have the port, or the one that has it at both ends
abbrev pub of_port : List Wire → Port → List Offender
of_port wires port = take 2 (flat_map (of_wire port) (enumerate_from 0 wires))

-- the end has this block of the node
abbrev pub has_block : ℕ → ℕ → End → Bool
has_block node block e = e.node == node && e.block == block

-- the ends of virtual link n that have it
abbrev pub of_vlink : ℕ → ℕ → ℕ × Vlink → List Offender
of_vlink node block (n, v) =
    (if has_block node block v.a then Part word.Vlinks n word.A ∷ [] else []) ++ (if has_block node block v.b then Part word.Vlinks n word.B ∷ [] else [])

-- the first two ends that have it
abbrev pub of_block : List Vlink → ℕ → ℕ → List Offender
of_block vlinks node block = take 2 (flat_map (of_vlink node block) (enumerate_from 0 vlinks))

-- end a or b of a virtual link
abbrev pub end_field : Bool → Word
end_field true = word.A
end_field false = word.B

-- the end from which the packets come, and the place where the fault shows
abbrev pub of_path : PathFault → List Offender
of_path f = Part word.Vlinks f.vlink (end_field f.from_a) ∷ of_spot f.last ∷ []

-- where a process uses the channel as it may not
abbrev pub of_misuse : Option (List Step) → List Offender
of_misuse None = []
of_misuse (Some path) = Place path ∷ []

-- the earlier channel on its way, or else a use that is wrong
abbrev pub beside_or_misuse : Plan → ℕ → Channel → Option ℕ → List Offender
beside_or_misuse plan c channel (Some d) = Item word.Channels d ∷ []
beside_or_misuse plan c channel None = of_misuse (misuse plan c channel 0 plan.nodes)

abbrev pub of_channel : Plan → ℕ → Option Channel → List Offender
of_channel plan c None = []
of_channel plan c (Some channel) = beside_or_misuse plan c channel (earlier_on_way plan.channels c channel.home)

-- the two places of a use that is not lawful, or else the process of the node
abbrev pub of_usage : ℕ → Option Places → List Offender
of_usage node None = Part word.Nodes node word.Process ∷ []
of_usage node (Some places) = Place places.first ∷ Place places.second ∷ []

-- the row of a table that is at fault
abbrev pub of_table : ℕ → Option ℕ → List Offender
of_table switch None = Part word.Switches switch word.Table ∷ []
of_table switch (Some row) = Place (Field word.Switches ∷ Index switch ∷ Field word.Table ∷ Index row ∷ []) ∷ []

-- what a refusal names, in the order in which it is told
abbrev pub offenders : Plan → CheckRefused → List Offender
offenders plan (check.Limit word) = of_limit plan word
offenders plan (check.PortTwice port) = of_spot port.spot ∷ of_port plan.wires port
offenders plan (check.PortMissing port) = of_spot port.spot ∷ []
offenders plan (check.BlockTwice node block) = Item word.Nodes node ∷ of_block plan.vlinks node block
offenders plan (check.Table switch fault) = of_table switch (bad_row plan switch (switch_at plan switch))
offenders plan (check.NoInterval path) = of_path path
offenders plan (check.WrongEnd path) = of_path path
offenders plan (check.StackEmpty path) = of_path path
offenders plan (check.StackFull path) = of_path path
offenders plan (check.Hops path) = of_path path
offenders plan (check.SameNode vlink) = Item word.Vlinks vlink ∷ []
offenders plan (check.Channel c) = Item word.Channels c ∷ of_channel plan c (slice_get plan.channels c)
offenders plan (check.Usage node name) = of_usage node (offence_of plan node name)
offenders plan check.Memory = []
