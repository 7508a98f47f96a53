-- What an exploration finds, as lines of text.
use Rattle.std.specs.Prelude.{ℕ, ◌==◌, Bool, false, List, [], ◌∷◌, ◌++◌, length, map, codes, decimal, Option, Some, None, slice_get}
use Rattle.std.specs.List.{enumerate_from, flat_map, list_any}
use Rattle.std.specs.Option.{option_map_or}
use Rattle.vc_explore.specs.declared.explored.BlockedPart.{BlockedPart}
use Rattle.vc_explore.specs.declared.explored.Ends.{Ends}
use Rattle.vc_explore.specs.declared.explored.Ends.TheVariants.{Always, MayGoOn}
use Rattle.vc_explore.specs.declared.explored.Explored.{Explored}
use Rattle.vc_explore.specs.declared.explored.Scheduled.{Scheduled}
use Rattle.vc_explore.specs.declared.explored.Verdict.{Verdict}
use Rattle.vc_explore.specs.declared.explored.Verdict.TheVariants.{NeverStuck, Stuck, NotStuckWithin}
use Rattle.vc_explore.specs.declared.program_move.ProgramMove.{ProgramMove}
use Rattle.vc_explore.specs.declared.program_move.ProgramMove.TheVariants.{Goes, Stops, Passes}
use Rattle.vc_plan.specs.Names.{channel_name, node_name}
use Rattle.vc_plan.specs.declared.plan.Plan.{Plan}
use Rattle.vc_plan.specs.declared.port.Port.{Port}
use Rattle.vc_text.specs.Deadlock.{deadlock_text}
use Rattle.vc_text.specs.Traffic.{value_text}
use Rattle.vc_waits.specs.Paths.{paths}
use Rattle.vc_waits.specs.Waits.{blocked_word, newline, part_text, path_text, process_path, waits_on}

-- of each node, the paths of its process and of those within it, in order of site
abbrev pub Paths : Type 0
Paths = List (List (List ℕ))

abbrev pub node_paths : Plan → Paths
node_paths plan = map (λ n. paths n.1.process (process_path n.0)) (enumerate_from 0 plan.nodes)

-- those of one node
abbrev pub paths_of : Paths → ℕ → List (List ℕ)
paths_of all n = option_map_or (λ own. own) (slice_get all n) []

-- a site, by its node and its path
unfoldable pub place_text : Plan → Paths → ℕ → ℕ → List ℕ
place_text plan all n i = node_name plan n ++ codes " " ++ path_text (paths_of all n) i

-- the place of a guard behind the path of its ALT
abbrev pub guard_text : Option ℕ → List ℕ
guard_text None = []
guard_text (Some k) = codes "/alt/" ++ decimal k

-- the message that passes on a channel
abbrev pub message_text : Plan → ℕ → List ℕ → List ℕ
message_text plan c m = option_map_or (λ k. value_text k.kind m) (slice_get plan.channels c) []

-- a move, with the message that passes by it
unfoldable pub move_text : Plan → Paths → ProgramMove → List ℕ → List ℕ
move_text plan all (Goes n i) m = codes "goes " ++ place_text plan all n i
move_text plan all (Stops n i c) m = codes "stops " ++ channel_name plan c ++ codes " " ++ place_text plan all n i
move_text plan all (Passes c n i r j k) m =
    codes "passes " ++ channel_name plan c ++ codes " " ++ message_text plan c m ++ codes " from " ++ place_text plan all n i
    ++ codes " to " ++ place_text plan all r j ++ guard_text k

abbrev pub move_line : Plan → Paths → Scheduled → List ℕ
move_line plan all s = move_text plan all s.made s.message ++ newline

-- a move stops this channel
abbrev pub stops : ℕ → ProgramMove → Bool
stops c (Stops n i d) = c == d
stops c m = false

-- a schedule stops it
abbrev pub is_stopped_by : List Scheduled → ℕ → Bool
is_stopped_by schedule c = list_any (λ (s : Scheduled). stops c s.made) schedule

-- what a part of a process is at that does not go on by itself after a schedule
unfoldable pub blocked_line : Plan → Paths → List Scheduled → BlockedPart → List ℕ
blocked_line plan all schedule b =
    blocked_word b.at ++ codes " " ++ node_name plan b.node ++ part_text plan (waits_on (is_stopped_by schedule) b.at) (paths_of all b.node) b.at ++ newline

-- a line that ends with how many moves there are
abbrev pub count_line : List ℕ → ℕ → List ℕ
count_line what n = what ++ decimal n ++ codes " moves\n"

-- a program that gets stuck: the moves of the schedule, and what does not go on then
abbrev pub stuck_text : Plan → Paths → List Scheduled → List BlockedPart → List ℕ
stuck_text plan all schedule parts =
    count_line (codes "stuck after ") (length schedule) ++ flat_map (move_line plan all) schedule ++ flat_map (blocked_line plan all schedule) parts

-- whether each schedule ends; if not, the moves of a circle
abbrev pub ends_text : Plan → Paths → Ends → List ℕ
ends_text plan all Always = codes "always ends\n"
ends_text plan all (MayGoOn n circle) = count_line (codes "may go on for ever after ") n ++ flat_map (move_line plan all) circle

abbrev pub never_text : Plan → Paths → Ends → List ℕ
never_text plan all ends = codes "never stuck\n" ++ ends_text plan all ends

-- what is said of the processes
abbrev pub verdict_text : Plan → Paths → Verdict → List ℕ
verdict_text plan all (NeverStuck ends) = never_text plan all ends
verdict_text plan all (Stuck schedule parts) = stuck_text plan all schedule parts
verdict_text plan all (NotStuckWithin n) = count_line (codes "not stuck within ") n

-- all lines: of the processes, of the wires, and how many states were kept
abbrev pub explored_text : Plan → Explored → Option (List Port) → List ℕ
explored_text plan explored cycle =
    verdict_text plan (node_paths plan) explored.verdict ++ codes "wires " ++ deadlock_text plan cycle ++ codes "states " ++ decimal explored.states ++ newline
