-- How many switches the packets of each virtual link pass, as it is told.
use Rattle.std.specs.Prelude.{ℕ, List, ◌++◌, codes, decimal}
use Rattle.std.specs.List.{flat_map, zip}
use Rattle.vc_plan.specs.declared.plan.Plan.{Plan}
use Rattle.vc_plan.specs.declared.vlink.End.{End}
use Rattle.vc_plan.specs.declared.vlink.Vlink.{Vlink}
use Rattle.vc_plan.specs.declared.vlink_length.VlinkLength.{VlinkLength}
use Rattle.vc_plan.specs.declared.way_length.WayLength.{WayLength}
use Rattle.vc_plan.specs.Names.{node_name}
use Rattle.vc_waits.specs.Waits.{newline}

-- the virtual link, and the nodes of its ends
unfoldable pub ends_text : Plan → List ℕ → End → End → List ℕ
ends_text plan name from to =
    codes "vlink " ++ name ++ codes " from " ++ node_name plan from.node ++ codes " to " ++ node_name plan to.node

-- the least and the greatest number of switches
unfoldable pub length_text : WayLength → List ℕ
length_text l = codes " switches least " ++ decimal l.least ++ codes " most " ++ decimal l.most

abbrev pub way_line : Plan → List ℕ → End → End → WayLength → List ℕ
way_line plan name from to l = ends_text plan name from to ++ length_text l ++ newline

-- a line from end a to end b, and one back
abbrev pub vlink_lines : Plan → Vlink × VlinkLength → List ℕ
vlink_lines plan (v, l) = way_line plan v.name v.a v.b l.there ++ way_line plan v.name v.b v.a l.back

-- those of each virtual link, in the plan's order
abbrev pub lengths_text : Plan → List VlinkLength → List ℕ
lengths_text plan lengths = flat_map (vlink_lines plan) (zip plan.vlinks lengths)
