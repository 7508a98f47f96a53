-- Who waits for what, as lines of text.
use Rattle.std.specs.Prelude.{ℕ, List, [], ◌∷◌, ◌++◌, Bool, false, codes, decimal, if◌then◌else◌, slice_get}
use Rattle.std.specs.List.{enumerate_from, flat_map}
use Rattle.std.specs.Option.{option_map_or}
use Rattle.vc_accepted.specs.NetworkOf.{network_of}
use Rattle.vc_core.specs.BlockedParts.{blocked_in}
use Rattle.vc_core.specs.PossibleEvents.{NetworkState}
use Rattle.vc_core.specs.State.{shown, state_of}
use Rattle.vc_core.specs.declared.network.Network.{Network}
use Rattle.vc_network.specs.Views.{view}
use Rattle.vc_occam.specs.declared.blocked.Blocked.{Blocked}
use Rattle.vc_occam.specs.declared.blocked.Blocked.TheVariants.{Output, Input, Guard, Closed, Undecided, Stop, Stopped}
use Rattle.vc_plan.specs.declared.node_plan.NodePlan.{NodePlan}
use Rattle.vc_plan.specs.declared.plan.Plan.{Plan}
use Rattle.vc_waits.specs.Paths.{paths}

-- the state that a network shows
abbrev pub state_in : Network → NetworkState
state_in network = shown (state_of network)

abbrev pub newline : List ℕ
newline = 10 ∷ []

-- a channel's name, and whether a process has stopped it
abbrev pub stop_text : Bool → List ℕ
stop_text is_stopped = if is_stopped then codes " stopped" else []

abbrev pub channel_text : Plan → (is_stopped : Bool) → ℕ → List ℕ
channel_text plan is_stopped c = option_map_or (λ k. k.name ++ stop_text is_stopped) (slice_get plan.channels c) []

-- the path of the process that has a site, and what is said of it
abbrev pub path_text : List (List ℕ) → ℕ → List ℕ
path_text paths i = option_map_or (λ path. path) (slice_get paths i) []

abbrev pub site_text : List (List ℕ) → ℕ → List ℕ → List ℕ
site_text paths i what = codes " " ++ path_text paths i ++ what

-- a part that waits, or one that has stopped
abbrev pub blocked_word : Blocked → List ℕ
blocked_word (Output i c) = codes "waits"
blocked_word (Input i c) = codes "waits"
blocked_word (Guard i c) = codes "waits"
blocked_word b = codes "stopped"

-- where a part of a process is, and what it waits for, on a channel that is stopped or is not, or how it has stopped
unfoldable pub part_text : Plan → (is_stopped : Bool) → List (List ℕ) → Blocked → List ℕ
part_text plan is_stopped paths (Output i c) = site_text paths i (codes " for the end of its output on ") ++ channel_text plan is_stopped c
part_text plan is_stopped paths (Input i c) = site_text paths i (codes " for an input on ") ++ channel_text plan is_stopped c
part_text plan is_stopped paths (Guard i c) = site_text paths i (codes " for a guard on ") ++ channel_text plan is_stopped c
part_text plan is_stopped paths (Closed i) = site_text paths i (codes " at an ALT without an open guard")
part_text plan is_stopped paths (Undecided i) = site_text paths i (codes " by a fault")
part_text plan is_stopped paths (Stop i) = site_text paths i (codes " by STOP")
part_text plan is_stopped paths (Stopped i) = site_text paths i (codes " by a fault or in an IF")

-- of the channels of which these are stopped, whether the one is on which a part waits
abbrev pub waits_on : (ℕ → Bool) → Blocked → Bool
waits_on stopped (Output i c) = stopped c
waits_on stopped (Input i c) = stopped c
waits_on stopped (Guard i c) = stopped c
waits_on stopped b = false

-- the same in a state of the network
abbrev pub blocked_text : Plan → NetworkState → List (List ℕ) → Blocked → List ℕ
blocked_text plan x paths b = part_text plan (waits_on (λ c. (view (network_of plan) x c).stopped) b) paths b

-- what blocks a part of a node's process
abbrev pub blocked_line : Plan → NetworkState → NodePlan → List (List ℕ) → Blocked → List ℕ
blocked_line plan x node paths b = blocked_word b ++ codes " " ++ node.name ++ blocked_text plan x paths b ++ newline

abbrev pub blocked_lines : Plan → NetworkState → NodePlan → List (List ℕ) → List Blocked → List ℕ
blocked_lines plan x node paths = flat_map (blocked_line plan x node paths)

-- the path of the n-th node's process
abbrev pub process_path : ℕ → List ℕ
process_path n = codes "/nodes/" ++ decimal n ++ codes "/process"

-- the n-th node, with a line for each part of its process that does not go on by itself
abbrev pub node_lines : Plan → NetworkState → ℕ × NodePlan → List ℕ
node_lines plan x (n, node) = blocked_lines plan x node (paths node.process (process_path n)) (blocked_in x n)

-- all nodes
abbrev pub processes_text : Plan → NetworkState → List ℕ
processes_text plan x = flat_map (node_lines plan x) (enumerate_from 0 plan.nodes)
