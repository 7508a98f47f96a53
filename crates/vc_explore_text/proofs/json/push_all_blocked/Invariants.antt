use Rattle.std.proofs.Common.{◌≡◌, ◌++◌, drop}
use Rattle.std.specs.List.{enumerate_from, flat_map}
use Rattle.vc_explore_text.specs.ExploredJson.{blocked_item}
use Rattle.vc_explore_text.proofs.json.push_all_blocked.Given as goal

abbrev pub invariant-loop-n : goal.invariant-loop-n
invariant-loop-n l =
    l.out.items ++ flat_map (blocked_item l.plan l.all l.schedule) (enumerate_from l.n (drop l.n l.parts)) ≡ l.fn.out.items ++ flat_map (blocked_item l.plan l.all l.schedule) (enumerate_from 0 l.parts)
