use Rattle.std.proofs.Common.{◌≡◌, ◌++◌, take}
use Rattle.std.specs.List.{flat_map}
use Rattle.vc_explore_text.specs.ExploredText.{move_line}
use Rattle.vc_explore_text.proofs.lines.push_moves.Given as goal

abbrev pub invariant-loop-scheduled : goal.invariant-loop-scheduled
invariant-loop-scheduled l = l.out.items ≡ l.fn.out.items ++ flat_map (move_line l.plan l.all) (take l.scheduled-index l.schedule)
