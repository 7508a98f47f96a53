use Rattle.std.proofs.Common.{◌≡◌, ◌++◌, take}
use Rattle.std.specs.List.{flat_map}
use Rattle.vc_core.specs.State.{shown, state_of}
use Rattle.vc_draw.specs.State.{part_line}
use Rattle.vc_draw.proofs.node_label.push_parts.Given as goal

abbrev pub invariant-loop-blocked : goal.invariant-loop-blocked
invariant-loop-blocked l = l.out.items ≡ l.fn.out.items ++ flat_map (part_line l.plan (shown (state_of l.network)) l.paths) (take l.blocked-index l.all)
