use Rattle.std.proofs.Common.{◌≡◌, ◌++◌, drop}
use Rattle.std.specs.List.{enumerate_from, flat_map}
use Rattle.vc_explore_text.specs.ExploredJson.{move_item}
use Rattle.vc_explore_text.proofs.json.push_moves.Given as goal

abbrev pub invariant-loop-n : goal.invariant-loop-n
invariant-loop-n l =
    l.out.items ++ flat_map (move_item l.plan l.all) (enumerate_from l.n (drop l.n l.schedule)) ≡ l.fn.out.items ++ flat_map (move_item l.plan l.all) (enumerate_from 0 l.schedule)
