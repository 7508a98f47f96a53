use Rattle.std.proofs.Common.{◌≡◌, ◌++◌, take}
use Rattle.std.specs.List.{flat_map}
use Rattle.vc_explore_text.specs.ExploredText.{blocked_line}
use Rattle.vc_explore_text.proofs.lines.push_all_blocked.Given as goal

abbrev pub invariant-loop-part : goal.invariant-loop-part
invariant-loop-part l = l.out.items ≡ l.fn.out.items ++ flat_map (blocked_line l.plan l.all l.schedule) (take l.part-index l.parts)
