-- What is added to the sentence of a refusal: the link of a row that is on no wire, or with which headers a packet should have come.
use Rattle.std.specs.Prelude.{ℕ, zero, suc, ◌+◌, ◌-◌, ◌||◌, Bool, false, not, is_some, if◌then◌else◌, List, [], ◌∷◌, ◌++◌, codes, decimal, length, slice_get, take, Option, Some, None, option_map}
use Rattle.std.specs.List.{list_any}
use Rattle.vc_labels.specs.Fault.{table_fault}
use Rattle.vc_labels.specs.declared.action.Action.{Action}
use Rattle.vc_labels.specs.declared.action.Action.TheVariants.{Out, Portal}
use Rattle.vc_labels.specs.declared.row.Row.{Row}
use Rattle.vc_plan.specs.declared.check_refused.CheckRefused.{CheckRefused}
use Rattle.vc_plan.specs.declared.check_refused.CheckRefused.TheVariants as check
use Rattle.vc_plan.specs.declared.path_fault.Hop.{Hop}
use Rattle.vc_plan.specs.declared.path_fault.PathFault.{PathFault}
use Rattle.vc_plan.specs.declared.plan.Plan.{Plan}
use Rattle.vc_plan.specs.declared.port.Port.{Port}
use Rattle.vc_plan.specs.declared.port.Spot.TheVariants.{Node, Switch}
use Rattle.vc_plan.specs.declared.port.Wire.{Wire}
use Rattle.vc_plan.specs.declared.switch_plan.SwitchPlan.{SwitchPlan}
use Rattle.vc_plan.specs.declared.vlink.End.{End}
use Rattle.vc_plan.specs.declared.vlink.Vlink.{Vlink}
use Rattle.vc_plan.specs.Accepted.{end_of}
use Rattle.vc_plan.specs.Hops.{deletes}
use Rattle.vc_plan.specs.Names.{node_name}
use Rattle.vc_plan.specs.Wires.{same_port, same_spot, switch_at}
use Rattle.vc_text.specs.FaultLine.{hop_text}

-- the first of so many rows, from this one on, that gives the rows up to it a fault
abbrev pub faulty_from : List Row → (count k : ℕ) → Option ℕ
faulty_from rows zero k = None
faulty_from rows (suc count) k = if is_some (table_fault (take (k + 1) rows)) then Some k else faulty_from rows count (suc k)

abbrev pub faulty_row : List Row → Option ℕ
faulty_row rows = faulty_from rows (length rows) 0

abbrev pub has_port : Port → Wire → Bool
has_port port w = same_port w.one port || same_port w.two port

-- the first of so many links of switch n, from this one on, that is on no wire
abbrev pub loose_link : List Wire → (n : ℕ) → (count link : ℕ) → Option ℕ
loose_link wires n zero link = None
loose_link wires n (suc count) link = if list_any (has_port (record { spot = Switch n; link = link })) wires then loose_link wires n count (suc link) else Some link

abbrev pub loose_in : List Wire → ℕ → Action → Option ℕ
loose_in wires n Portal = None
loose_in wires n (Out first last) = loose_link wires n (suc last - first) first

-- the first row with such a link, and the link
abbrev pub or_later : ℕ → Option ℕ → Option (ℕ × ℕ) → Option (ℕ × ℕ)
or_later k None later = later
or_later k (Some link) later = Some (k, link)

abbrev pub loose_row : List Wire → (n k : ℕ) → List Row → Option (ℕ × ℕ)
loose_row wires n k [] = None
loose_row wires n k (row ∷ rows) = or_later k (loose_in wires n row.action) (loose_row wires n (suc k) rows)

-- the row of a table that is at fault
abbrev pub or_loose : Option ℕ → Option (ℕ × ℕ) → Option ℕ
or_loose (Some k) loose = Some k
or_loose None loose = option_map (λ found. found.0) loose

abbrev pub bad_row : Plan → ℕ → Option SwitchPlan → Option ℕ
bad_row plan n None = None
bad_row plan n (Some switch) = or_loose (faulty_row switch.rows) (loose_row plan.wires n 0 switch.rows)

unfoldable pub link_text : ℕ → List ℕ
link_text link = codes " Link " ++ decimal link ++ codes " is on no wire."

abbrev pub loose_text : Option ℕ → Option (ℕ × ℕ) → List ℕ
loose_text None (Some (k, link)) = link_text link
loose_text faulty loose = []

abbrev pub table_detail : Plan → ℕ → Option SwitchPlan → List ℕ
table_detail plan n None = []
table_detail plan n (Some switch) = loose_text (faulty_row switch.rows) (loose_row plan.wires n 0 switch.rows)

-- the hop's link deletes no header
abbrev pub keeps_at : Option SwitchPlan → Hop → Bool
keeps_at None h = false
keeps_at (Some switch) h = not (deletes switch.delete h.link)

abbrev pub last_keeper : Plan → Option Hop → List Hop → Option Hop
last_keeper plan found [] = found
last_keeper plan found (h ∷ hs) = last_keeper plan (if keeps_at (switch_at plan h.switch) h then Some h else found) hs

abbrev pub keeper_text : Plan → Option Hop → List ℕ
keeper_text plan None = []
keeper_text plan (Some h) = codes " No header is deleted at" ++ hop_text plan h ++ codes "."

unfoldable pub end_place : Plan → End → List ℕ
end_place plan e = codes " The other end is at " ++ node_name plan e.node

unfoldable pub end_block : ℕ → List ℕ
end_block block = codes ", and takes the header " ++ decimal block ++ codes " alone."

-- what the other end takes; and if a packet came there with more, the last port that deletes no header
abbrev pub end_detail : Plan → PathFault → End → List ℕ
end_detail plan f e = end_place plan e ++ end_block e.block ++ (if same_spot f.last (Node e.node) then keeper_text plan (last_keeper plan None f.hops) else [])

abbrev pub way_detail : Plan → PathFault → Option Vlink → List ℕ
way_detail plan f None = []
way_detail plan f (Some vlink) = end_detail plan f (end_of vlink (not f.from_a))

unfoldable pub detail : Plan → CheckRefused → List ℕ
detail plan (check.Table n fault) = table_detail plan n (switch_at plan n)
detail plan (check.WrongEnd f) = way_detail plan f (slice_get plan.vlinks f.vlink)
detail plan why = []
