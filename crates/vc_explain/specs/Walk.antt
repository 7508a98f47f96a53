-- A path that leads astray, hop by hop, with the headers of the packet before each.
use Rattle.std.specs.Prelude.{ℕ, Bool, true, false, if◌then◌else◌, List, [], ◌∷◌, ◌++◌, codes, decimal, Option, Some, None, slice_get}
use Rattle.std.specs.List.{flat_map}
use Rattle.vc_labels.specs.Interval.{action_for}
use Rattle.vc_labels.specs.declared.action.Action.{Action}
use Rattle.vc_labels.specs.declared.action.Action.TheVariants.{Out, Portal}
use Rattle.vc_labels.specs.declared.row.Row.{Row}
use Rattle.vc_plan.specs.declared.check_refused.CheckRefused.{CheckRefused}
use Rattle.vc_plan.specs.declared.check_refused.CheckRefused.TheVariants as check
use Rattle.vc_plan.specs.declared.path_fault.Hop.{Hop}
use Rattle.vc_plan.specs.declared.path_fault.PathFault.{PathFault}
use Rattle.vc_plan.specs.declared.plan.Plan.{Plan}
use Rattle.vc_plan.specs.declared.switch_plan.SwitchPlan.{SwitchPlan}
use Rattle.vc_plan.specs.declared.vlink.Vlink.{Vlink}
use Rattle.vc_plan.specs.Accepted.{end_of}
use Rattle.vc_plan.specs.Hops.{left_by, put_in_front}
use Rattle.vc_plan.specs.Wires.{switch_at}
use Rattle.vc_text.specs.FaultLine.{hop_text, last_text}
use Rattle.vc_waits.specs.Ports.{port_text}
use Rattle.vc_waits.specs.Waits.{newline}

-- the headers of a packet, the front one first
abbrev pub header_text : ℕ → List ℕ
header_text header = codes " " ++ decimal header

abbrev pub headers_text : List ℕ → List ℕ
headers_text [] = codes " no header"
headers_text (h ∷ hs) = codes " headers" ++ flat_map header_text (h ∷ hs)

-- a portal takes the front header away, and the next one is looked up
abbrev pub is_portal : Option Action → Bool
is_portal None = false
is_portal (Some (Out first last)) = false
is_portal (Some Portal) = true

abbrev pub past_portals : List Row → List ℕ → List ℕ
past_portals rows [] = []
past_portals rows (h ∷ hs) = if is_portal (action_for rows h) then past_portals rows hs else h ∷ hs

abbrev pub past_portals_at : Option SwitchPlan → List ℕ → List ℕ
past_portals_at None headers = headers
past_portals_at (Some switch) headers = past_portals switch.rows headers

-- the headers behind a hop: with the random one in front, past the portals, and without the one that the link deletes
abbrev pub headers_behind : Plan → Hop → List ℕ → List ℕ
headers_behind plan h s = left_by (switch_at plan h.switch) h.link (past_portals_at (switch_at plan h.switch) (put_in_front h.value s))

-- a hop, or the place where the fault shows, with the headers before it
unfoldable pub hop_line : Plan → Hop → List ℕ → List ℕ
hop_line plan h s = codes " " ++ hop_text plan h ++ headers_text s ++ newline

unfoldable pub last_line : Plan → PathFault → List ℕ → List ℕ
last_line plan f s = codes " " ++ last_text plan f ++ headers_text s ++ newline

abbrev pub hops_text : Plan → PathFault → List Hop → List ℕ → List ℕ
hops_text plan f [] s = last_line plan f s
hops_text plan f (h ∷ hs) s = hop_line plan h s ++ hops_text plan f hs (headers_behind plan h s)

-- the headers with which the packets begin
abbrev pub route_at : Option Vlink → Bool → List ℕ
route_at None from_a = []
route_at (Some v) from_a = (end_of v from_a).route

abbrev pub route_of : Plan → PathFault → List ℕ
route_of plan f = route_at (slice_get plan.vlinks f.vlink) f.from_a

unfoldable pub start_line : Plan → PathFault → List ℕ
start_line plan f = codes "  " ++ port_text plan f.start ++ headers_text (route_of plan f) ++ newline

-- from the sending port to the place where the fault shows
abbrev pub walk_text : Plan → PathFault → List ℕ
walk_text plan f = start_line plan f ++ hops_text plan f f.hops (route_of plan f)

-- the path of a refusal that has one
abbrev pub path_walked : Plan → CheckRefused → List ℕ
path_walked plan (check.NoInterval f) = walk_text plan f
path_walked plan (check.WrongEnd f) = walk_text plan f
path_walked plan (check.StackEmpty f) = walk_text plan f
path_walked plan (check.StackFull f) = walk_text plan f
path_walked plan (check.Hops f) = walk_text plan f
path_walked plan why = []
