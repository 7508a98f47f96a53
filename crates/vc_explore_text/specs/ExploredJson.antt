-- What an exploration finds, as JSON.
use Rattle.std.specs.Prelude.{ℕ, zero, suc, Bool, List, [], ◌∷◌, ◌++◌, codes, decimal, Option, Some, None, if◌then◌else◌, slice_get}
use Rattle.std.specs.List.{enumerate_from, flat_map}
use Rattle.std.specs.Option.{option_map_or}
use Rattle.vc_explore.specs.declared.explored.BlockedPart.{BlockedPart}
use Rattle.vc_explore.specs.declared.explored.Ends.{Ends}
use Rattle.vc_explore.specs.declared.explored.Ends.TheVariants.{Always, MayGoOn}
use Rattle.vc_explore.specs.declared.explored.Explored.{Explored}
use Rattle.vc_explore.specs.declared.explored.Scheduled.{Scheduled}
use Rattle.vc_explore.specs.declared.explored.Verdict.{Verdict}
use Rattle.vc_explore.specs.declared.explored.Verdict.TheVariants.{NeverStuck, Stuck, NotStuckWithin}
use Rattle.vc_explore.specs.declared.program_move.ProgramMove.{ProgramMove}
use Rattle.vc_explore.specs.declared.program_move.ProgramMove.TheVariants.{Goes, Stops, Passes}
use Rattle.vc_explore_text.specs.ExploredText.{Paths, is_stopped_by, node_paths, paths_of}
use Rattle.vc_occam.specs.declared.blocked.Blocked.{Blocked}
use Rattle.vc_occam.specs.declared.blocked.Blocked.TheVariants.{Output, Input, Guard, Closed, Undecided, Stop, Stopped}
use Rattle.vc_plan.specs.Names.{channel_name, node_name}
use Rattle.vc_plan.specs.declared.plan.Plan.{Plan}
use Rattle.vc_plan.specs.declared.port.Port.{Port}
use Rattle.vc_stats.specs.Json.{value_json}
use Rattle.vc_waits.specs.Ports.{port_text}
use Rattle.vc_waits.specs.Waits.{path_text, waits_on}

-- the n-th of a list has a comma before it, unless it is the first
abbrev pub comma : ℕ → List ℕ
comma zero = []
comma (suc n) = codes ","

-- a site by its node and its path: an object that is not closed
unfoldable pub place_json : Plan → Paths → ℕ → ℕ → List ℕ
place_json plan all n i = codes "{\"node\":\"" ++ node_name plan n ++ codes "\",\"path\":\"" ++ path_text (paths_of all n) i ++ codes "\""

-- the place of a guard, and the end of the object of its ALT
abbrev pub guard_json : Option ℕ → List ℕ
guard_json None = codes "}"
guard_json (Some k) = codes ",\"guard\":" ++ decimal k ++ codes "}"

-- the message that passes on a channel
abbrev pub message_json : Plan → ℕ → List ℕ → List ℕ
message_json plan c m = option_map_or (λ k. value_json k.kind m) (slice_get plan.channels c) []

-- a move, with the message that passes by it
unfoldable pub move_json : Plan → Paths → ProgramMove → List ℕ → List ℕ
move_json plan all (Goes n i) m = codes "{\"goes\":" ++ place_json plan all n i ++ codes "}}"
move_json plan all (Stops n i c) m = codes "{\"stops\":\"" ++ channel_name plan c ++ codes "\",\"at\":" ++ place_json plan all n i ++ codes "}}"
move_json plan all (Passes c n i r j k) m =
    codes "{\"passes\":\"" ++ channel_name plan c ++ codes "\",\"value\":" ++ message_json plan c m ++ codes ",\"from\":" ++ place_json plan all n i
    ++ codes "},\"to\":" ++ place_json plan all r j ++ guard_json k ++ codes "}"

abbrev pub move_item : Plan → Paths → ℕ × Scheduled → List ℕ
move_item plan all (n, s) = comma n ++ move_json plan all s.made s.message

-- the site of a part that does not go on by itself
abbrev pub site_of : Blocked → ℕ
site_of (Output i c) = i
site_of (Input i c) = i
site_of (Guard i c) = i
site_of (Closed i) = i
site_of (Undecided i) = i
site_of (Stop i) = i
site_of (Stopped i) = i

-- a channel on which a part waits, and whether it is stopped
abbrev pub channel_json : Plan → Bool → ℕ → List ℕ
channel_json plan is_stopped c = codes ",\"chan\":\"" ++ channel_name plan c ++ (if is_stopped then codes "\",\"stopped\":true}" else codes "\"}")

-- what a part waits for, or by what it has stopped, and the end of its object
unfoldable pub why_json : Plan → Bool → Blocked → List ℕ
why_json plan is_stopped (Output i c) = codes ",\"for\":\"end\"" ++ channel_json plan is_stopped c
why_json plan is_stopped (Input i c) = codes ",\"for\":\"input\"" ++ channel_json plan is_stopped c
why_json plan is_stopped (Guard i c) = codes ",\"for\":\"guard\"" ++ channel_json plan is_stopped c
why_json plan is_stopped (Closed i) = codes ",\"by\":\"closed\"}"
why_json plan is_stopped (Undecided i) = codes ",\"by\":\"fault\"}"
why_json plan is_stopped (Stop i) = codes ",\"by\":\"stop\"}"
why_json plan is_stopped (Stopped i) = codes ",\"by\":\"fault or if\"}"

-- the n-th part that does not go on by itself after a schedule
abbrev pub blocked_item : Plan → Paths → List Scheduled → ℕ × BlockedPart → List ℕ
blocked_item plan all schedule (n, b) =
    comma n ++ place_json plan all b.node (site_of b.at) ++ why_json plan (waits_on (is_stopped_by schedule) b.at) b.at

-- a program that gets stuck: the moves of the schedule, and what does not go on then
abbrev pub stuck_json : Plan → Paths → List Scheduled → List BlockedPart → List ℕ
stuck_json plan all schedule parts =
    codes "{\"stuck\":{\"moves\":[" ++ flat_map (move_item plan all) (enumerate_from 0 schedule) ++ codes "],\"waits\":["
    ++ flat_map (blocked_item plan all schedule) (enumerate_from 0 parts) ++ codes "]}"

-- whether each schedule ends; if not, the moves of a circle
abbrev pub ends_json : Plan → Paths → Ends → List ℕ
ends_json plan all Always = codes "\"always\""
ends_json plan all (MayGoOn n circle) =
    codes "{\"on_after\":" ++ decimal n ++ codes ",\"moves\":[" ++ flat_map (move_item plan all) (enumerate_from 0 circle) ++ codes "]}"

-- the first members: what is said of the processes
abbrev pub verdict_json : Plan → Paths → Verdict → List ℕ
verdict_json plan all (NeverStuck ends) = codes "{\"stuck\":null,\"ends\":" ++ ends_json plan all ends
verdict_json plan all (Stuck schedule parts) = stuck_json plan all schedule parts
verdict_json plan all (NotStuckWithin n) = codes "{\"within\":" ++ decimal n

-- the n-th port of a cycle
abbrev pub port_item : Plan → ℕ × Port → List ℕ
port_item plan (n, p) = comma n ++ codes "\"" ++ port_text plan p ++ codes "\""

abbrev pub wires_json : Plan → Option (List Port) → List ℕ
wires_json plan None = codes ",\"wires\":{\"free\":true}"
wires_json plan (Some ports) = codes ",\"wires\":{\"cycle\":[" ++ flat_map (port_item plan) (enumerate_from 0 ports) ++ codes "]}"

-- all members
abbrev pub explored_json : Plan → Explored → Option (List Port) → List ℕ
explored_json plan explored cycle =
    verdict_json plan (node_paths plan) explored.verdict ++ wires_json plan cycle ++ codes ",\"states\":" ++ decimal explored.states ++ codes "}\n"
